use Rattle.std.proofs.{lemmas.Grind.common_steps, Common.arith}
use Rattle.adf_tree.proofs.lookup.directory.Goals as goal

pub returns-in-None : goal.returns-in-None
returns-in-None c = grind (arith, common_steps)

pub returns-then-not-is_dir : goal.returns-then-not-is_dir
returns-then-not-is_dir c = grind (arith, common_steps)

pub loop-name-preserved : goal.loop-name-preserved
loop-name-preserved c = grind (arith, common_steps)

pub returns : goal.returns
returns c = grind (arith, common_steps)
