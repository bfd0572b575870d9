use Rattle.adf_tree.proofs.TreeOfAdditions.{grown}
use Rattle.adf_tree.proofs.laws.adding_grows_the_tree.Goals as goal

pub returns : goal.returns
returns c = λ l es a x t ok. grown es a x t ok
