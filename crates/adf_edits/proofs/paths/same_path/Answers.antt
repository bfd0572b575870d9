use Rattle.std.proofs.{Common.arith, Common.sym, lemmas.Grind.common_steps, lemmas.Bool.Decides.nat_tests}
use Rattle.adf_edits.proofs.SamePaths.{same_not}
use Rattle.adf_edits.proofs.paths.same_path.Goals as goal

pub returns-then-not-same : goal.returns-then-not-same
returns-then-not-same c =
    sym (same_not c.args.a.now c.args.b.now c.loop-i.i (omega (arith, c.loop-i-test.true, c.loop-i.auto.i-end)) (grind (arith, nat_tests))
    (grind (arith, common_steps)))
