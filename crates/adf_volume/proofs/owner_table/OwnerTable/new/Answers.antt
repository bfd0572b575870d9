use Rattle.std.proofs.{Common.arith, Common.replicate, lemmas.Grind.common_steps}
use Rattle.adf_volume.proofs.OwnerTables.{new_is, new_table}
use Rattle.adf_volume.proofs.owner_table.OwnerTable.new.Goals as goal

pub invariant_of-result : goal.invariant_of-result
invariant_of-result c = grind (arith, common_steps, replicate, common_steps, new_is, new_table)
