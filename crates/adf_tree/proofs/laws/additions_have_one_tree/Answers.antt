use Rattle.adf_tree.proofs.OneTreeOfAdditions.{one_tree}
use Rattle.adf_tree.proofs.laws.additions_have_one_tree.Goals as goal

pub returns : goal.returns
returns c = λ l es others a t u. one_tree es others a t u
