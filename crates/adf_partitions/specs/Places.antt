-- Where the volume of a partition lies. p is the partition block.
use Rattle.std.specs.Prelude.{◌≡◌, ℕ, ◌+◌, ◌-◌, ◌*◌, ◌<◌, ◌≤◌, ◌==◌, ◌&&◌, ◌||◌, not, nat_le, nat_lt, Bool, true, List}
use Rattle.adf_base.specs.Words.{block, word}
use Rattle.adf_partitions.specs.declared.layout.TheConstants.{HIGH_CYLINDER, LOW_CYLINDER, SURFACES, TRACK_BLOCKS}
use Rattle.adf_partitions.specs.{declared.place.Place.Place, declared.tables.Tables.Tables, Summed.holds}

-- the blocks of a cylinder
abbrev pub cylinder_of : List ℕ → ℕ
cylinder_of p = word p SURFACES * word p TRACK_BLOCKS

-- whether the highest cylinder is at least the lowest, and a cylinder has blocks
abbrev pub has_cylinders : List ℕ → Bool
has_cylinders p = nat_le (word p LOW_CYLINDER) (word p HIGH_CYLINDER) && not (cylinder_of p == 0)

-- a place from its first block and its number of blocks
abbrev pub blocks_from : ℕ → ℕ → Place
blocks_from first count = record { first = first; blocks = count }

-- the place: all blocks from the lowest cylinder to the highest
abbrev pub partition_place : List ℕ → Place
partition_place p = blocks_from (word p LOW_CYLINDER * cylinder_of p) ((word p HIGH_CYLINDER + 1 - word p LOW_CYLINDER) * cylinder_of p)

-- the block after the last one of a place
abbrev pub end_of : Place → ℕ
end_of q = q.first + q.blocks

-- block b says where a volume lies, within n blocks
pub record StatesPlace (bytes : List ℕ) (n b : ℕ) : Type 0 where
  pub held : holds bytes b ≡ true
  pub cylinders : has_cylinders (block bytes b) ≡ true
  pub within : end_of (partition_place (block bytes b)) ≤ n

-- whether a block is before the end of a place
abbrev pub is_before_end : ℕ → Place → Bool
is_before_end b q = nat_lt b (end_of q)

-- whether two places have a block in common
abbrev pub do_overlap : Place → Place → Bool
do_overlap q r = is_before_end q.first r && is_before_end r.first q

-- whether a place has one of the blocks from `lowest` to `highest`, of which there may be none
abbrev pub has_one_of : ℕ → ℕ → Place → Bool
has_one_of lowest highest q = nat_le lowest highest && nat_le q.first highest && is_before_end lowest q

-- whether a place has a block that is kept for the tables: of one that begins at the highest, this is the first block behind them
abbrev pub is_over_kept : Place → Tables → Bool
is_over_kept q t = not (q.first == t.highest) && has_one_of t.lowest t.highest q

-- whether a place has a block that is kept for the tables, or the rigid disk block
abbrev pub is_over_tables : Place → Tables → Bool
is_over_tables q t = is_over_kept q t || has_one_of t.rdsk t.rdsk q

-- a block of the disk is one of a place
abbrev pub IsIn : ℕ → Place → Type 0
IsIn b q = (q.first ≤ b) × (b < end_of q)
