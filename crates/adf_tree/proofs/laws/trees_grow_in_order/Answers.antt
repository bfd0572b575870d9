use Rattle.adf_tree.proofs.TreePrefixes.{is_next}
use Rattle.adf_tree.proofs.laws.trees_grow_in_order.Goals as goal

pub returns : goal.returns
returns c = λ l es n d t lt. is_next es n d t lt
