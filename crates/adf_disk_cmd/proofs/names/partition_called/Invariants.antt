use Rattle.std.proofs.Common.{◌≡◌, drop}
use Rattle.std.specs.List.{find}
use Rattle.adf_disk_cmd.specs.Answers.{is_called}
use Rattle.adf_disk_cmd.proofs.names.partition_called.Given as goal

abbrev pub invariant-loop-partition : goal.invariant-loop-partition
invariant-loop-partition l =
    find (is_called l.text) l.partitions ≡ find (is_called l.text) (drop l.partition-index l.partitions)
