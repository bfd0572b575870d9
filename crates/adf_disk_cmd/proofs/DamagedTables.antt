-- What is answered of a disk whose tables have a fault.
-- Letters: ps are its partitions; u the fault that is found, if there is one; f, g faults; a a reply.
use Rattle.std.proofs.Common.{◌≡◌, ℕ, List, Option, None, Some, length, ◌/◌}
use Rattle.adf_disk_cmd.specs.Answers.{DamagedTablesAreTold, OfPartitions}
use Rattle.adf_disk_cmd.specs.Surveys.{IsSurveyed}
use Rattle.adf_partitions.proofs.OneAnswer.{no_fault}
use Rattle.adf_partitions.specs.{Disks.FirstDiskFault, declared.fault.DiskFault.DiskFault, declared.partition.Partition.Partition}
use Rattle.adf_runs.specs.Commands.{Reply}
use Rattle.adf_disk_cmd.specs.CommandLine.{DiskRequestValue, build, check, list, propose, search, volume}

-- of a disk whose tables have a fault nothing is told at status 0
damaged_told : (r : DiskRequestValue) (bytes : List ℕ) (ps : List Partition) (f : DiskFault) (a : Reply) → OfPartitions r bytes ps (Some f) a
    → a.status ≡ 1
damaged_told (list json) bytes ps f a x = x
damaged_told (check json) bytes ps f a (s, h, x) = x
damaged_told (search json) bytes ps f a x = absurd x
damaged_told propose bytes ps f a x = absurd x
damaged_told (volume w) bytes ps f a x = x.0
damaged_told build bytes ps f a x = absurd x

told_so : (r : DiskRequestValue) (bytes : List ℕ) (ps : List Partition) (u : Option DiskFault) (f : DiskFault) (a : Reply)
    → IsSurveyed bytes (length bytes / 512) ps u → FirstDiskFault bytes (length bytes / 512) f → OfPartitions r bytes ps u a → a.status ≡ 1
told_so r bytes ps None f a (t, disk) first x = absurd (no_fault bytes (length bytes / 512) t ps f first disk)
told_so r bytes ps (Some g) f a disk first x = damaged_told r bytes ps g a x

pub damaged_tables_are_told : DamagedTablesAreTold
damaged_tables_are_told r bytes f a first (ps, u, disk, x) = told_so r bytes ps u f a disk first x
