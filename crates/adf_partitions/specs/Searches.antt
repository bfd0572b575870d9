-- The partitions of a disk that can be read though its tables have a fault. `bytes` are the first bytes of the disk, n is the
-- number of its blocks, t its tables; ps are partitions found before.
use Rattle.std.specs.Prelude.{◌≢◌, ◌==◌, ◌&&◌, ◌||◌, ◌++◌, ℕ, zero, suc, not, nat_lt, Bool, List, [], ◌∷◌, length, if◌then◌else◌}
use Rattle.std.specs.List.{list_any}
use Rattle.adf_base.specs.Words.{block, word}
use Rattle.adf_partitions.specs.{declared.fault.DiskFault.DiskFault, declared.partition.Partition.Partition, declared.tables.Tables.Tables, Summed.is_summed}
use Rattle.adf_partitions.specs.declared.layout.TheConstants.{BLOCK_BYTES, MARK, MOST_PARTITIONS, MOST_TABLES, NO_BLOCK, PART, RDSK_BLOCKS}
use Rattle.adf_partitions.specs.Disks.{IsCut, IsDisk, is_block_of, partition_at}
use Rattle.adf_partitions.specs.Tables.{HasNoRdsk, IsRdsk, IsTables, is_kept_for_tables, may_be_table}

-- whether a block says that it is a partition block, with a sound sum
abbrev pub is_partition_block : List ℕ → Bool
is_partition_block p = (word p MARK == PART) && is_summed p

-- whether block b is searched: it is kept for the tables, or is one of those in which tables begin
abbrev pub is_searched : List ℕ → Tables → ℕ → Bool
is_searched bytes t b = (nat_lt b RDSK_BLOCKS || is_kept_for_tables t b) && may_be_table bytes b

-- whether block b, which is searched, is a partition block that these partitions do not have
abbrev pub is_lost_partition : List ℕ → Tables → List Partition → ℕ → Bool
is_lost_partition bytes t ps b =
    is_searched bytes t b && is_partition_block (block bytes b) && not (list_any (is_block_of b) ps) && nat_lt (length ps) MOST_PARTITIONS

-- the partitions, and that of block b if it is lost
abbrev pub with_lost_partition : List ℕ → ℕ → Tables → List Partition → ℕ → List Partition
with_lost_partition bytes n t ps b = if is_lost_partition bytes t ps b then ps ++ partition_at bytes n t ps b ∷ [] else ps

-- the partitions, and those of the first k blocks that are lost, in the order of their blocks
unfoldable pub with_all_lost : List ℕ → ℕ → Tables → List Partition → ℕ → List Partition
with_all_lost bytes n t ps zero = ps
with_all_lost bytes n t ps (suc k) = with_lost_partition bytes n t (with_all_lost bytes n t ps k) k

-- no tables: without a rigid disk block, block 0 alone is kept
abbrev pub no_tables : Tables
no_tables = record { rdsk = 0; first = NO_BLOCK; lowest = 0; highest = 0 }

-- the partitions of lost blocks of a disk without a rigid disk block
abbrev pub bare_partitions : List ℕ → ℕ → List Partition
bare_partitions bytes n = with_all_lost bytes n no_tables [] MOST_TABLES

-- The partitions that can be read: all of the list; those before its first fault, then those of partition blocks that it does
-- not come to; without a rigid disk block those of the first blocks; none if its blocks have another size.
pub data AreReadable (bytes : List ℕ) (n : ℕ) : List Partition → Type 0 where
  whole : {t : Tables} {ps : List Partition} → IsDisk bytes n t ps → AreReadable bytes n ps
  cut : {t : Tables} {ps : List Partition} {f : DiskFault} → IsTables bytes t → IsCut bytes n t ps f
      → AreReadable bytes n (with_all_lost bytes n t ps MOST_TABLES)
  bare : HasNoRdsk bytes → AreReadable bytes n (bare_partitions bytes n)
  other : {b : ℕ} → IsRdsk bytes b → word (block bytes b) BLOCK_BYTES ≢ 512 → AreReadable bytes n []

-- there is a partition that can be read
abbrev pub HasReadable : List ℕ → ℕ → Type 0
HasReadable bytes n = (ps : List Partition) × AreReadable bytes n ps × (ps ≢ [])
