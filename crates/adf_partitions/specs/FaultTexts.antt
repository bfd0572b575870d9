-- The texts of faults, as printed, and their numbers.
use Rattle.std.specs.Prelude.{◌++◌, ℕ, List, codes}
use Rattle.std.specs.Fmt.{decimal}
use Rattle.adf_partitions.specs.{declared.fault.DiskCause.DiskCause, declared.fault.DiskFault.DiskFault, declared.place.PlaceFault.PlaceFault}
use Rattle.adf_partitions.specs.declared.fault.DiskCause.TheVariants.{NoRigidDisk, BlockSize, OutOfRange, Repeated, NotPartition, BadSum, TooMany, NoMemory}
use Rattle.adf_partitions.specs.declared.field_fault.FieldFault.{FieldFault, TheVariants.ShortEnvironment, TheVariants.OtherBlocks, TheVariants.BadName}
use Rattle.adf_partitions.specs.declared.place.PlaceFault.TheVariants.{NoCylinders, BeyondImage, OverTables, OverPartition}

-- what is wrong with a disk
abbrev pub disk_cause_text : DiskCause → List ℕ
disk_cause_text NoRigidDisk = codes "no rigid disk"
disk_cause_text BlockSize = codes "bad block size"
disk_cause_text OutOfRange = codes "out of range"
disk_cause_text Repeated = codes "repeated"
disk_cause_text NotPartition = codes "not a partition"
disk_cause_text BadSum = codes "bad sum"
disk_cause_text TooMany = codes "too many"
disk_cause_text NoMemory = codes "no memory"

-- the block and what is wrong
abbrev pub disk_fault_text : DiskFault → List ℕ
disk_fault_text f = codes "block " ++ (decimal f.block ++ (codes ": " ++ disk_cause_text f.cause))

-- what is wrong with the place of a partition
abbrev pub place_fault_text : PlaceFault → List ℕ
place_fault_text NoCylinders = codes "bad cylinders"
place_fault_text BeyondImage = codes "beyond image"
place_fault_text OverTables = codes "over tables"
place_fault_text OverPartition = codes "over partition"

-- what is wrong with its other fields
abbrev pub field_fault_text : FieldFault → List ℕ
field_fault_text ShortEnvironment = codes "short environment"
field_fault_text OtherBlocks = codes "other block size"
field_fault_text BadName = codes "bad name"

-- the number of what is wrong with a disk; within one block the tests run in ascending order of these numbers
abbrev pub disk_cause_number : DiskCause → ℕ
disk_cause_number NoRigidDisk = 1
disk_cause_number BlockSize = 2
disk_cause_number OutOfRange = 3
disk_cause_number Repeated = 4
disk_cause_number NotPartition = 5
disk_cause_number BadSum = 6
disk_cause_number TooMany = 7
disk_cause_number NoMemory = 8

-- the number of what is wrong with the place of a partition; the tests run in ascending order
abbrev pub place_fault_number : PlaceFault → ℕ
place_fault_number NoCylinders = 3
place_fault_number BeyondImage = 4
place_fault_number OverTables = 5
place_fault_number OverPartition = 6

-- the number of what is wrong with its other fields, none of which is that of a place; the tests run in ascending order
abbrev pub field_fault_number : FieldFault → ℕ
field_fault_number ShortEnvironment = 1
field_fault_number OtherBlocks = 2
field_fault_number BadName = 7
