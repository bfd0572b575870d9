use Rattle.adf_tree.proofs.ChainMembers.{child_found_is}
use Rattle.adf_tree.proofs.laws.children_are_found.Goals as goal

pub returns : goal.returns
returns c = λ l es p name n d t. child_found_is l es p name n d t
