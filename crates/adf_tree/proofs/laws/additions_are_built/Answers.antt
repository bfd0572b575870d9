use Rattle.adf_tree.proofs.TreeOfAdditions.{all_built_by}
use Rattle.adf_tree.proofs.laws.additions_are_built.Goals as goal

pub returns : goal.returns
returns c = λ l a room. all_built_by l a room
