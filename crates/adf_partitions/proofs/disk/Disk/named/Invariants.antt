use Rattle.std.proofs.Common.{◌≡◌, drop}
use Rattle.std.specs.List.{find}
use Rattle.adf_partitions.specs.Partitions.{is_partition_named}
use Rattle.adf_partitions.proofs.disk.Disk.named.Given as goal

abbrev pub invariant-loop-partition : goal.invariant-loop-partition
invariant-loop-partition l =
    find (is_partition_named l.name) l.self.partitions.items ≡ find (is_partition_named l.name) (drop l.partition-index l.self.partitions.items)
