-- The list of a disk's partition blocks, and its first fault. `bytes` are the first bytes of the disk, n is the number of its
-- blocks, t its tables; ps are the partitions found; a is the block that names block b.
use Rattle.std.specs.Prelude.{◌≡◌, ◌≢◌, ◌⊎◌, ℕ, ◌==◌, not, nat_lt, Bool, List, [], ◌∷◌, ◌++◌, Option, Some, None, length}
use Rattle.std.specs.List.{list_any}
use Rattle.adf_base.specs.Words.{block, word}
use Rattle.adf_partitions.specs.declared.fault.DiskCause.TheVariants.{OutOfRange, Repeated, NotPartition, BadSum, TooMany}
use Rattle.adf_partitions.specs.{declared.fault.DiskFault.DiskFault, declared.partition.Partition.Partition, declared.tables.Tables.Tables, Faults.disk_fault}
use Rattle.adf_partitions.specs.{Faults.first_failed, Partitions.partition_of, Summed.is_summed, Tables.HasNoTables, Tables.IsTables, Tables.may_be_table}
use Rattle.adf_partitions.specs.declared.layout.TheConstants.{MARK, MOST_PARTITIONS, NEXT_PART, NO_BLOCK, PART}

-- whether block b is that of a partition
abbrev pub is_block_of : ℕ → Partition → Bool
is_block_of b partition = partition.block == b

-- the tests of block b, which block a names, as the next partition block
abbrev pub part_form : List ℕ → List Partition → ℕ → ℕ → List (Bool × DiskFault)
part_form bytes ps a b =
    (may_be_table bytes b, disk_fault a OutOfRange)
    ∷ (not (list_any (is_block_of b) ps), disk_fault b Repeated)
    ∷ (word (block bytes b) MARK == PART, disk_fault b NotPartition)
    ∷ (is_summed (block bytes b), disk_fault b BadSum)
    ∷ (nat_lt (length ps) MOST_PARTITIONS, disk_fault b TooMany)
    ∷ []

-- the partition of block b, after earlier ones
abbrev pub partition_at : List ℕ → ℕ → Tables → List Partition → ℕ → Partition
partition_at bytes n t ps b = partition_of n t ps b (block bytes b)

-- The partitions found so far, in the list's order, the last block of the list, and the one that it names: at first the
-- rigid disk block, which names the first partition block; then each block that passes its tests, and names the next.
pub data IsFound (bytes : List ℕ) (n : ℕ) (t : Tables) : List Partition → ℕ → ℕ → Type 0 where
  start : IsFound bytes n t [] t.rdsk t.first
  step : {ps : List Partition} {a b : ℕ} → IsFound bytes n t ps a b → b ≢ NO_BLOCK → first_failed (part_form bytes ps a b) ≡ None
      → IsFound bytes n t (ps ++ partition_at bytes n t ps b ∷ []) b (word (block bytes b) NEXT_PART)

-- the rigid disk block names a block, and that passes its tests as the first partition block
abbrev pub NamesPartition : List ℕ → Tables → Type 0
NamesPartition bytes t = (t.first ≢ NO_BLOCK) × (first_failed (part_form bytes [] t.rdsk t.first) ≡ None)

-- these are all partitions of the list: its last block names none
abbrev pub IsWholeList : List ℕ → ℕ → Tables → List Partition → Type 0
IsWholeList bytes n t ps = (last : ℕ) × IsFound bytes n t ps last NO_BLOCK

-- these are the tables of a disk and all its partitions
pub record IsDisk (bytes : List ℕ) (n : ℕ) (t : Tables) (ps : List Partition) : Type 0 where
  pub tables : IsTables bytes t
  pub whole : IsWholeList bytes n t ps

-- these are the partitions before the first fault of a list, that of the block which is named after them
pub record IsCut (bytes : List ℕ) (n : ℕ) (t : Tables) (ps : List Partition) (f : DiskFault) : Type 0 where
  pub last : ℕ
  pub next : ℕ
  pub found : IsFound bytes n t ps last next
  pub some : next ≢ NO_BLOCK
  pub failed : first_failed (part_form bytes ps last next) ≡ Some f

-- the partitions of a list, up to its end or its first fault
abbrev pub IsFollowed : List ℕ → ℕ → Tables → List Partition → Option DiskFault → Type 0
IsFollowed bytes n t ps None = IsWholeList bytes n t ps
IsFollowed bytes n t ps (Some f) = IsCut bytes n t ps f

-- the first fault of a list, after some partitions
abbrev pub IsListFault : List ℕ → ℕ → Tables → DiskFault → Type 0
IsListFault bytes n t f = (ps : List Partition) × IsCut bytes n t ps f

-- the first fault of a disk: it has no tables, or the list of its partition blocks has a fault
pub data FirstDiskFault (bytes : List ℕ) (n : ℕ) (f : DiskFault) : Type 0 where
  at_tables : HasNoTables bytes f → FirstDiskFault bytes n f
  at_list : {t : Tables} → IsTables bytes t → IsListFault bytes n t f → FirstDiskFault bytes n f

-- a disk has a list of partitions, or a first fault
abbrev pub HasListOrFault : List ℕ → ℕ → Type 0
HasListOrFault bytes n = ((t : Tables) × (ps : List Partition) × IsDisk bytes n t ps) ⊎ ((f : DiskFault) × FirstDiskFault bytes n f)
