use Rattle.adf_boot_cmd.proofs.Trees.{trees_stay}
use Rattle.adf_boot_cmd.proofs.laws.trees_stay.Goals as goal

pub returns : goal.returns
returns c = trees_stay
