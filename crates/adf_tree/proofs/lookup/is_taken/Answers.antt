use Rattle.std.proofs.{lemmas.Grind.common_steps, Common.arith}
use Rattle.adf_tree.proofs.LastNames.{known_child}
use Rattle.adf_tree.proofs.lookup.is_taken.Goals as goal

pub returns-then-knows : goal.returns-then-knows
returns-then-knows c = grind (arith, known_child)

pub returns : goal.returns
returns c = grind (arith, common_steps)
