use Rattle.std.proofs.{lemmas.Grind.common_steps, Common.arith}
use Rattle.adf_tree.proofs.lookup.find.Goals as goal

pub returns-in-None : goal.returns-in-None
returns-in-None c = grind (arith, common_steps)

pub loop-name-preserved : goal.loop-name-preserved
loop-name-preserved c = grind (arith, common_steps)

pub returns : goal.returns
returns c = grind (arith, common_steps)
