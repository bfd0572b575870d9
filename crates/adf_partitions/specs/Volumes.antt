-- The volumes of a disk, each in its place.
use Rattle.std.specs.Prelude.{◌≡◌, ◌≢◌, ◌<◌, ◌≤◌, ℕ, List, All, AllPairs, IfOk, length}
use Rattle.adf_base.specs.Words.{block}
use Rattle.adf_partitions.specs.{declared.layout.TheConstants.MOST_PARTITIONS, declared.partition.Partition.Partition, declared.place.Place.Place}
use Rattle.adf_partitions.specs.{declared.tables.Tables.Tables, Places.IsIn, Places.StatesPlace, Places.end_of, Places.partition_place}

-- a place has blocks, all within a disk of n blocks; none of them is the rigid disk block, and none is kept for the tables but the
-- highest of these, where a place may begin
pub record LiesWell (n : ℕ) (t : Tables) (q : Place) : Type 0 where
  pub some : 0 < q.blocks
  pub within : end_of q ≤ n
  pub beside : (b : ℕ) → IsIn b q → t.lowest ≤ b → b ≤ t.highest → (b ≡ t.highest) × (b ≡ q.first)
  pub past : (b : ℕ) → IsIn b q → b ≢ t.rdsk

-- the volume of a partition does, if the partition has a place
abbrev pub VolumeLiesWell : ℕ → Tables → Partition → Type 0
VolumeLiesWell n t p = IfOk p.place (LiesWell n t)

-- two places have no block in common
abbrev pub ShareNoBlock : Place → Place → Type 0
ShareNoBlock q r = (b : ℕ) → IsIn b q → IsIn b r → ⊥

-- the volumes of two partitions have none, if both have a place
abbrev pub VolumesAreApart : Partition → Partition → Type 0
VolumesAreApart p other = IfOk p.place (λ q. IfOk other.place (ShareNoBlock q))

-- a place has blocks, all within a disk of n blocks
pub record LiesWithin (n : ℕ) (q : Place) : Type 0 where
  pub some : 0 < q.blocks
  pub within : end_of q ≤ n

-- the volume of a partition does, if the partition has a place
abbrev pub VolumeLiesWithin : ℕ → Partition → Type 0
VolumeLiesWithin n p = IfOk p.place (LiesWithin n)

-- two partitions have different blocks
abbrev pub AreInOtherBlocks : Partition → Partition → Type 0
AreInOtherBlocks p other = p.block ≢ other.block

-- partitions of a disk of n blocks, at most 1,024, each in a block of its own, with volumes within the disk and apart
pub record AreSeparate (n : ℕ) (ps : List Partition) : Type 0 where
  pub few : length ps ≤ MOST_PARTITIONS
  pub blocks : AllPairs AreInOtherBlocks ps
  pub within : All (VolumeLiesWithin n) ps
  pub apart : AllPairs VolumesAreApart ps

-- a place is where block b says that a volume lies
pub record IsStated (bytes : List ℕ) (n b : ℕ) (q : Place) : Type 0 where
  pub states : StatesPlace bytes n b
  pub same : q ≡ partition_place (block bytes b)
