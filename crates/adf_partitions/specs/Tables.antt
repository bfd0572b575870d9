-- The rigid disk block, and the blocks kept for a disk's tables. The list is of the first bytes of the disk.
use Rattle.std.specs.Prelude.{◌≡◌, ◌≢◌, ◌⊎◌, ◌<◌, ℕ, ◌==◌, ◌&&◌, ◌||◌, not, nat_le, nat_lt, Bool, true, false, List}
use Rattle.adf_base.specs.Words.{block, word}
use Rattle.adf_partitions.specs.declared.fault.DiskCause.TheVariants.{NoRigidDisk, BlockSize}
use Rattle.adf_partitions.specs.{declared.fault.DiskFault.DiskFault, declared.tables.Tables.Tables, Faults.disk_fault, Summed.holds, Summed.is_summed}
use Rattle.adf_partitions.specs.declared.layout.TheConstants.{BLOCK_BYTES, FIRST_PART, HIGHEST_TABLE, LOWEST_TABLE, MARK, MOST_TABLES, RDSK, RDSK_BLOCKS}
use Rattle.adf_partitions.specs.declared.layout.TheConstants.{SUMMED_LONGS}

-- whether a rigid disk block says that blocks have another size than 512 bytes, and has a sum over more words than such a block has
abbrev pub is_larger : List ℕ → Bool
is_larger p = nat_lt 128 (word p SUMMED_LONGS) && not (word p BLOCK_BYTES == 512)

-- whether block b is a rigid disk block
abbrev pub is_rdsk : List ℕ → ℕ → Bool
is_rdsk bytes b = holds bytes b && (word (block bytes b) MARK == RDSK) && (is_summed (block bytes b) || is_larger (block bytes b))

-- the rigid disk block of a disk: the first of those before block RDSK_BLOCKS
pub record IsRdsk (bytes : List ℕ) (b : ℕ) : Type 0 where
  pub low : b < RDSK_BLOCKS
  pub is : is_rdsk bytes b ≡ true
  pub first : (k : ℕ) → k < b → is_rdsk bytes k ≡ false

-- a disk without a rigid disk block
abbrev pub HasNoRdsk : List ℕ → Type 0
HasNoRdsk bytes = (k : ℕ) → k < RDSK_BLOCKS → is_rdsk bytes k ≡ false

-- the tables of a rigid disk block
abbrev pub tables_at : List ℕ → ℕ → Tables
tables_at bytes b = record {
  rdsk = b;
  first = word (block bytes b) FIRST_PART;
  lowest = word (block bytes b) LOWEST_TABLE;
  highest = word (block bytes b) HIGHEST_TABLE;
}

-- the tables of a disk, whose blocks have 512 bytes
pub record IsTables (bytes : List ℕ) (t : Tables) : Type 0 where
  pub rdsk : IsRdsk bytes t.rdsk
  pub size : word (block bytes t.rdsk) BLOCK_BYTES ≡ 512
  pub same : t ≡ tables_at bytes t.rdsk

-- no rigid disk block, reported at block 0, or one of a disk with blocks of another size
abbrev pub HasNoTables : List ℕ → DiskFault → Type 0
HasNoTables bytes f =
    (HasNoRdsk bytes × (f ≡ disk_fault 0 NoRigidDisk))
    ⊎ (IsRdsk bytes f.block × (word (block bytes f.block) BLOCK_BYTES ≢ 512) × (f.cause ≡ BlockSize))

-- whether block b may have a table, and the bytes hold it
abbrev pub may_be_table : List ℕ → ℕ → Bool
may_be_table bytes b = nat_lt b MOST_TABLES && holds bytes b

-- whether block b is kept for the tables
abbrev pub is_kept_for_tables : Tables → ℕ → Bool
is_kept_for_tables t b = nat_le t.lowest b && nat_le b t.highest
