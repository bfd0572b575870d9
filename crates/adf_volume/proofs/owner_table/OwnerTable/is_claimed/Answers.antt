use Rattle.std.proofs.{Common.arith, lemmas.Grind.common_steps}
use Rattle.adf_volume.proofs.owner_table.OwnerTable.is_claimed.Goals as goal

pub returns-in-Some : goal.returns-in-Some
returns-in-Some c = grind (arith, common_steps)

pub returns-in-None : goal.returns-in-None
returns-in-None c = grind (arith, common_steps)
