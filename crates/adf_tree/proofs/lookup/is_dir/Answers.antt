use Rattle.std.proofs.{lemmas.Grind.elements, Common.arith}
use Rattle.adf_tree.proofs.lookup.is_dir.Goals as goal

pub returns-in-Some : goal.returns-in-Some
returns-in-Some c = grind (arith, elements)

pub returns-in-None : goal.returns-in-None
returns-in-None c = grind (arith, elements)
