-- What is found on a disk, whether its tables have a fault or not. `bytes` are its first bytes, n is the number of its blocks, ps are partitions.
use Rattle.std.specs.Prelude.{ℕ, ◌*◌, ◌&&◌, nat_le, Bool, true, false, List, Option, None, Some, drop, take, if◌then◌else◌}
use Rattle.adf_base.specs.Words.{block}
use Rattle.adf_partitions.specs.{Disks.FirstDiskFault, Disks.IsDisk, Summed.holds, Volumes.AreSeparate}
use Rattle.adf_partitions.specs.Places.{blocks_from, end_of, has_cylinders, partition_place}
use Rattle.adf_partitions.specs.{declared.fault.DiskFault.DiskFault, declared.partition.Partition.Partition, declared.place.Place.Place}
use Rattle.adf_partitions.specs.declared.tables.Tables.{Tables}
use Rattle.adf_disk_cmd.specs.declared.volumes.TheConstants.{MOST_DISK_BLOCKS}

-- these are all partitions of the list, or some that lie apart on the disk, where this is the first fault of the tables
abbrev pub IsSurveyed : List ℕ → ℕ → List Partition → Option DiskFault → Type 0
IsSurveyed bytes n ps None = (t : Tables) × IsDisk bytes n t ps
IsSurveyed bytes n ps (Some f) = AreSeparate n ps × FirstDiskFault bytes n f

-- whether tables have no fault
abbrev pub are_faultless : Option DiskFault → Bool
are_faultless None = true
are_faultless (Some f) = false

-- whether the block b of the tables says where a volume lies, within the largest disk
abbrev pub states_place : List ℕ → ℕ → Bool
states_place tables b =
    holds tables b && has_cylinders (block tables b) && nat_le (end_of (partition_place (block tables b))) MOST_DISK_BLOCKS

-- where it says so, and otherwise nowhere
abbrev pub stated_at : List ℕ → ℕ → Place
stated_at tables b = if states_place tables b then partition_place (block tables b) else blocks_from 0 0

-- the bytes of the volume that lies there
unfoldable pub volume_at : List ℕ → Place → List ℕ
volume_at bytes q = take (q.blocks * 512) (drop (q.first * 512) bytes)
