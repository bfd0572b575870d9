use Rattle.std.proofs.Common.{◌∙◌, ap, map, sym}
use Rattle.adf_caches.specs.Caches.{entries_named, entry_recorded, records_in}
use Rattle.adf_caches.specs.Judging.{StopsChain.unlike}
use Rattle.adf_caches.specs.Marking.{mark_each}
use Rattle.adf_caches.proofs.ChainWays.{named_at}
use Rattle.adf_caches.proofs.chains.pass_block.Goals as goal

pub returns-then-not-mark_recorded-clause-stopped : goal.returns-then-not-mark_recorded-clause-stopped
unfolding entries_named
returns-then-not-mark_recorded-clause-stopped c = λ w fs survey.
    unlike (ap (λ l. mark_each (map (entry_recorded c.args.survey.now.image w c.args.d) (records_in l)) c.args.marks.now.entries.items)
    (sym c.in_ok-cache.ensures.block)
    ∙ c.mark_recorded.ensures.none w fs survey c.if-not-mark_recorded.true)

pub returns-then-not-mark_recorded-clause-blocks : goal.returns-then-not-mark_recorded-clause-blocks
returns-then-not-mark_recorded-clause-blocks c = λ w fs survey.
    named_at c.args.survey.now.image w c.args.d c.args.b _ _ (sym (c.in_ok-cache.ensures.some w fs survey))
    (c.mark_one.ensures.marked c.if-not-mark_one.false)

pub returns-clause-passed : goal.returns-clause-passed
unfolding entries_named
returns-clause-passed c = λ w fs survey. record {
  is = sym (c.in_ok-cache.ensures.some w fs survey);
  block = c.mark_one.ensures.marked c.if-not-mark_one.false;
  entries = ap (λ l. mark_each (map (entry_recorded c.args.survey.now.image w c.args.d) (records_in l)) c.args.marks.now.entries.items)
      (sym c.in_ok-cache.ensures.block)
      ∙ c.mark_recorded.ensures.marked w fs survey c.if-not-mark_recorded.false;
}

pub returns-clause-blocks : goal.returns-clause-blocks
returns-clause-blocks c = λ w fs survey.
    named_at c.args.survey.now.image w c.args.d c.args.b _ _ (sym (c.in_ok-cache.ensures.some w fs survey))
    (c.mark_one.ensures.marked c.if-not-mark_one.false)
