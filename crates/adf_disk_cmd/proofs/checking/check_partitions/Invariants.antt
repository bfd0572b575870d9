use Rattle.std.proofs.Common.{ℕ, List, drop}
use Rattle.adf_disk_cmd.proofs.CheckedVolumes.{Continues}
use Rattle.adf_disk_cmd.specs.HeldChecks.{KnowsDisk}
use Rattle.adf_disk_cmd.proofs.checking.check_partitions.Given as goal

abbrev pub invariant-loop-partition : goal.invariant-loop-partition
invariant-loop-partition l =
    (all : List ℕ) → KnowsDisk all l.bytes l.checked → Continues all l.partitions (drop l.partition-index l.partitions) l.sound
