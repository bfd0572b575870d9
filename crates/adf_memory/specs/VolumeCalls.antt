-- What the calls promise that make a volume or write its boot blocks, and the one that reads the tables of a hard disk.
-- Letters: v a new volume; xs the table of its additions; bytes the contents of its files, or the first bytes of a disk; n what a call returns.
use Rattle.std.specs.Prelude.{◌≡◌, ◌≤◌, ◌<◌, ◌⊎◌, ℕ, true, List, Option, Some, None, length}
use Rattle.adf_tree.specs.Tree.{Tree}
use Rattle.adf_blocks.specs.Sizes.{blocks, middle}
use Rattle.adf_volume.specs.{Fits.Fits, Layout.Layout}
use Rattle.adf_boot_blocks.specs.{BootBlocks.IsOtherBoot, BootBlocks.is_bootable, Refusals.copy_refusal, Refusals.image_refusal, Writing.cleared}
use Rattle.adf_boot_blocks.specs.{Writing.copied, Writing.installed, declared.boot.TheConstants.BOOT_LEN, declared.standard.TheConstants.STANDARD_CODE}
use Rattle.adf_boot_blocks.specs.declared.refusal.BootRefusal.{BootRefusal, TheVariants.BadSize}
use Rattle.adf_partitions.specs.{Disks.FirstDiskFault, Disks.IsDisk, Searches.AreReadable, Searches.HasReadable, declared.fault.DiskFault.DiskFault}
use Rattle.adf_partitions.specs.{declared.partition.Partition.Partition, declared.tables.Tables.Tables}
use Rattle.adf_memory.specs.Boot.{answer_number, boot_blocks, boot_refusal_number}
use Rattle.adf_memory.specs.Building.{ExplainsBuild, ExplainsNeed, HasVolume, IsFewest, IsSoundVolume, Refuses, built_in, tree_of}
use Rattle.adf_memory.specs.{DiskTables.partition_table, DiskTables.table_disk, Rooms.filled, Verdicts.WantsMemory, declared.boot.BootBlocks.BootBlocks}
use Rattle.adf_memory.specs.{declared.building.Built.Built, declared.building.NewVolume.NewVolume, declared.disk_tables.TableDisk.TableDisk}
use Rattle.adf_memory.specs.{declared.disk_tables.TablePartition.TablePartition, declared.table_additions.TableAddition.TableAddition}

-- adf_build: at 0 no addition has a fault, and the room begins with the image that is laid for their tree. Any other number is that of a refusal
pub record BuildsVolume (v : NewVolume) (xs : List TableAddition) (bytes old new : List ℕ) (told : Built) (n : ℕ) : Type 0 where
  pub sound : n ≡ 0 → IsSoundVolume v bytes xs
  pub volume : n ≡ 0 → HasVolume (tree_of v bytes xs) v.blocks old new
  pub built : n ≡ 0 → told ≡ built_in v.blocks
  pub refused : ¬ (n ≡ 0) → Refuses (ExplainsBuild v bytes xs (length old)) n told
  pub unchanged : ¬ (n ≡ 0) → new ≡ old

-- adf_need: at 0 no addition has a fault, and their tree has room in so many blocks, and in no fewer. Any other number is that of a refusal
pub record NeedsBlocks (v : NewVolume) (xs : List TableAddition) (bytes : List ℕ) (told : Built) (n : ℕ) : Type 0 where
  pub sound : n ≡ 0 → IsSoundVolume v bytes xs
  pub fewest : n ≡ 0 → IsFewest (tree_of v bytes xs) told.blocks
  pub built : n ≡ 0 → told ≡ built_in told.blocks
  pub refused : ¬ (n ≡ 0) → Refuses (ExplainsNeed v bytes xs) n told

-- adf_boot: what the boot blocks of an image say; one that is shorter has none, and nothing is written
pub record TellsBoot (image : List ℕ) (old new : BootBlocks) (n : ℕ) : Type 0 where
  pub number : BOOT_LEN ≤ length image → n ≡ 0
  pub told : BOOT_LEN ≤ length image → new ≡ boot_blocks image
  pub short : length image < BOOT_LEN → n ≡ boot_refusal_number BadSize
  pub unchanged : length image < BOOT_LEN → new ≡ old

-- adf_boot_install, adf_boot_copy and adf_boot_clear: the image has other boot blocks, and what fits it fits it still; or it is refused, and nothing is written
pub record ChangesBoot (refusal : Option BootRefusal) (changed old new : List ℕ) (n : ℕ) : Type 0 where
  pub number : n ≡ answer_number refusal
  pub exact : n ≡ 0 → new ≡ changed
  pub other : IsOtherBoot old new
  pub fits : (t : Tree) (l : Layout) → Fits old t l → Fits new t l
  pub unchanged : ¬ (n ≡ 0) → new ≡ old

-- the same, and what is written starts
pub record StartsBoot (refusal : Option BootRefusal) (changed old new : List ℕ) (n : ℕ) : Type 0 where
  pub changes : ChangesBoot refusal changed old new n
  pub bootable : n ≡ 0 → is_bootable new ≡ true

abbrev pub InstallsBoot : (old new : List ℕ) → ℕ → Type 0
InstallsBoot old = StartsBoot (image_refusal old) (installed old (middle (blocks old)) STANDARD_CODE) old

abbrev pub CopiesBoot : (source old new : List ℕ) → ℕ → Type 0
CopiesBoot source old = StartsBoot (copy_refusal old source) (copied old source) old

abbrev pub ClearsBoot : (old new : List ℕ) → ℕ → Type 0
ClearsBoot old = ChangesBoot (image_refusal old) (cleared old) old

-- adf_disk_index: the rows are those of the partitions that can be read, and the first fault of the tables is told, if there is one. If memory ran out, the
-- table is unchanged, and there is a partition that can be read
pub record FillsPartitions (bytes : List ℕ) (count : ℕ) (old new : List TablePartition) (disk : TableDisk) (n : ℕ) : Type 0 where
  pub number : (n ≡ 0) ⊎ WantsMemory n
  pub partitions : n ≡ 0 → (ps : List Partition) → AreReadable bytes count ps → new ≡ filled (partition_table ps) old
  pub whole : n ≡ 0 → (t : Tables) (ps : List Partition) → IsDisk bytes count t ps → disk ≡ table_disk (length ps) None
  pub fault : n ≡ 0 → (ps : List Partition) (f : DiskFault) → AreReadable bytes count ps → FirstDiskFault bytes count f
      → disk ≡ table_disk (length ps) (Some f)
  pub unchanged : WantsMemory n → (new ≡ old) × (disk ≡ table_disk 0 None)
  pub begun : WantsMemory n → HasReadable bytes count
