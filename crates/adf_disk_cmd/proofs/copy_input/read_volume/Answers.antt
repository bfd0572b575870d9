use Rattle.std.proofs.Common.{◌+◌, ◌-◌, arith}
use Rattle.adf_disk_cmd.proofs.HeldVolume.{parts_read}
use Rattle.adf_disk_cmd.specs.{declared.list_input.TheConstants.TABLES_LEN, declared.work.TheConstants.MOST_DISK_BYTES}
use Rattle.adf_runs.proofs.KnownBytes.{two_at_most}
use Rattle.adf_disk_cmd.proofs.copy_input.read_volume.Goals as goal

pub returns-in-Ok-read_excerpt-clause-held : goal.returns-in-Ok-read_excerpt-clause-held
returns-in-Ok-read_excerpt-clause-held g c =
    parts_read _ _ _ _ c.in-Ok-sought_place.place c.saturating_sub-from.result c.saturating_sub-to.result _ c.in-Ok.ensures.first
    c.in-Ok-read_excerpt.ensures.part (omega (arith, c.saturating_sub-from.ensures)) (omega (arith, c.saturating_sub-to.ensures))

pub returns-in-Ok-read_excerpt-clause-at_most : goal.returns-in-Ok-read_excerpt-clause-at_most
returns-in-Ok-read_excerpt-clause-at_most g c =
    two_at_most TABLES_LEN (MOST_DISK_BYTES - TABLES_LEN + 1) (MOST_DISK_BYTES + 1) _ _ _ (omega arith) c.read_first.ensures.at_most
    c.read_excerpt.ensures.at_most

pub returns-in-Err-read_excerpt-clause-at_most : goal.returns-in-Err-read_excerpt-clause-at_most
returns-in-Err-read_excerpt-clause-at_most g c =
    two_at_most TABLES_LEN (MOST_DISK_BYTES - TABLES_LEN + 1) (MOST_DISK_BYTES + 1) _ _ _ (omega arith) c.read_first.ensures.at_most
    c.read_excerpt.ensures.at_most
