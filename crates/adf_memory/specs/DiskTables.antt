-- The table of a hard disk's partitions. `bytes` are the first bytes of a disk of n blocks; ps are partitions of it.
use Rattle.std.specs.Prelude.{◌≡◌, ◌≢◌, ℕ, List, length, map, Option, Some, None, Result, Ok, Err}
use Rattle.adf_partitions.specs.{Disks.FirstDiskFault, Disks.IsDisk, FaultTexts.disk_cause_number, FaultTexts.field_fault_number, FaultTexts.place_fault_number}
use Rattle.adf_partitions.specs.{Searches.AreReadable, declared.fault.DiskCause.DiskCause, declared.fault.DiskCause.TheVariants.NoMemory}
use Rattle.adf_partitions.specs.{declared.fault.DiskFault.DiskFault, declared.field_fault.FieldFault.FieldFault, declared.partition.Partition.Partition}
use Rattle.adf_partitions.specs.{declared.place.Place.Place, declared.place.PlaceFault.PlaceFault, declared.tables.Tables.Tables}
use Rattle.adf_memory.specs.{declared.disk_tables.TableDisk.TableDisk, declared.disk_tables.TablePartition.TablePartition, Tables.field}

-- the first block of a place; 0 if there is none
abbrev pub first_or_zero : Result Place PlaceFault → ℕ
first_or_zero (Ok q) = q.first
first_or_zero (Err f) = 0

-- its blocks; 0 if there is none
abbrev pub blocks_of : Result Place PlaceFault → ℕ
blocks_of (Ok q) = q.blocks
blocks_of (Err f) = 0

-- the number of what is wrong with the other fields of a partition; 0 if nothing is
abbrev pub field_fault_of : Option FieldFault → ℕ
field_fault_of None = 0
field_fault_of (Some f) = field_fault_number f

-- the number of what is wrong with its place, or else with its other fields; 0 if nothing is
abbrev pub partition_fault : Result Place PlaceFault → Option FieldFault → ℕ
partition_fault (Ok q) o = field_fault_of o
partition_fault (Err f) o = place_fault_number f

-- the row of a partition
abbrev pub partition_row : Partition → TablePartition
partition_row p = record {
  first = first_or_zero p.place;
  blocks = blocks_of p.place;
  block = p.block;
  flags = p.flags;
  priority = p.priority;
  dos_type = p.dos_type;
  fault = partition_fault p.place p.fault;
  name_length = length p.name;
  name = field 31 p.name;
}

-- the table of partitions
abbrev pub partition_table : List Partition → List TablePartition
partition_table ps = map partition_row ps

-- this is the number of what may be wrong with the tables of a disk; that memory was refused is nothing of a disk
abbrev pub IsDiskCause : DiskCause → ℕ → Type 0
IsDiskCause cause n = (cause ≢ NoMemory) × (disk_cause_number cause ≡ n)

-- what is told of a disk besides its k partitions: the first fault of its tables, if they have one
abbrev pub table_disk : ℕ → Option DiskFault → TableDisk
table_disk k None = record { partitions = k; block = 0; cause = 0 }
table_disk k (Some f) = record { partitions = k; block = f.block; cause = disk_cause_number f.cause }

-- the partitions that can be read, and the first fault of the tables, if they have one
abbrev pub IsDiskRead : List ℕ → ℕ → List Partition → Option DiskFault → Type 0
IsDiskRead bytes n ps None = (t : Tables) × IsDisk bytes n t ps
IsDiskRead bytes n ps (Some f) = AreReadable bytes n ps × FirstDiskFault bytes n f
