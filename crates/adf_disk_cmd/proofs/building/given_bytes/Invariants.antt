use Rattle.std.proofs.Common.{◌≡◌, ◌+◌, drop}
use Rattle.adf_disk_cmd.specs.Builds.{given_cylinders}
use Rattle.adf_disk_cmd.proofs.building.given_bytes.Given as goal

abbrev pub invariant-loop-partition : goal.invariant-loop-partition
invariant-loop-partition l = l.cylinders + given_cylinders (drop l.partition-index l.plan.partitions.items) ≡ given_cylinders l.plan.partitions.items
