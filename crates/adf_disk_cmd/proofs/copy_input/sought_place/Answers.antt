use Rattle.adf_disk_cmd.proofs.HeldVolume.{stated_within}
use Rattle.adf_disk_cmd.proofs.copy_input.sought_place.Goals as goal

pub returns-in-Some : goal.returns-in-Some
returns-in-Some c = rw c.stated_at.ensures (stated_within c.args.tables.now c.in-Some.partition.now.block)
