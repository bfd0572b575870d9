use Rattle.std.proofs.{Common.ℕ, Common.arith, Common.rules, Common.length-take, lemmas.Grind.common_steps}
use Rattle.adf_runs.proofs.KnownBytes.{counted_at_most, more_counted, still_at_most}
use Rattle.adf_runs.proofs.devices.Source.skip.Goals as goal

pub loop-passed-preserved : goal.loop-passed-preserved
loop-passed-preserved g c = record {
  within = omega (arith, c.in_ok-count.ensures.count, c.read.auto.buf, length-take {A = ℕ});
  works = search rules;
  reliable = search rules;
  taken = more_counted _ _ _ _ _ _ c.loop-passed.invariant.taken (omega (arith, c.in_ok-count.ensures.count)) c.in_ok-count.ensures.bytes.0;
}

pub returns-then-count-eq0-clause-passed : goal.returns-then-count-eq0-clause-passed
returns-then-count-eq0-clause-passed g c = grind (arith, common_steps)

pub returns-clause-passed : goal.returns-clause-passed
returns-clause-passed g c = grind (arith, common_steps)

pub returns-in_err-count-clause-at_most : goal.returns-in_err-count-clause-at_most
returns-in_err-count-clause-at_most g c =
    let so_far = c.loop-passed.invariant in
    still_at_most _ _ _ _ (counted_at_most c.args.limit _ _ _ so_far.within so_far.taken) c.in_err-count.ensures.bytes

pub returns-then-count-eq0-clause-at_most : goal.returns-then-count-eq0-clause-at_most
returns-then-count-eq0-clause-at_most g c =
    counted_at_most c.args.limit _ _ _ (omega arith)
    (more_counted _ _ _ _ _ _ c.loop-passed.invariant.taken (omega (arith, c.in_ok-count.ensures.count)) c.in_ok-count.ensures.bytes.0)

pub returns-clause-at_most : goal.returns-clause-at_most
returns-clause-at_most g c = counted_at_most c.args.limit _ _ _ c.loop-passed.invariant.within c.loop-passed.invariant.taken
