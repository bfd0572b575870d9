use Rattle.std.proofs.Common.{rules}
use Rattle.adf_partitions.proofs.SeparatePartitions.{are_separate}
use Rattle.adf_disk_cmd.proofs.surveying.survey_disk.Goals as goal

pub returns-in_ok-readable_partitions-in_default : goal.returns-in_ok-readable_partitions-in_default
returns-in_ok-readable_partitions-in_default c = (
  are_separate _ _ _ c.in_ok-readable_partitions-in_default.ensures.readable,
  c.in-Err.ensures.first (search rules),
)
