-- What the call promises that fills tables of volumes with directory caches, and of those of any type.
-- Letters: t a tree; l its layout; w the walk of an image's survey; n what a call returns, or a number of blocks; c the contents.
use Rattle.std.specs.Prelude.{◌≡◌, ◌<◌, ◌+◌, ◌-◌, ℕ, true, false, List, length, min}
use Rattle.adf_base.specs.declared.hash.Letters.TheVariants.{International}
use Rattle.adf_names.specs.VolumeTypes.{letters_of_type}
use Rattle.adf_tree.specs.Tree.{Tree}
use Rattle.adf_volume.specs.{Layout.Layout, Walk.Walk, declared.types.Types.TheVariants.WithInternational}
use Rattle.adf_uncached.specs.Uncached.{right_blocks, uncached}
use Rattle.adf_cached_files.specs.InPlace.{FitsInPlace}
use Rattle.adf_memory.specs.{CheckCalls.FillsTables, Rooms.filled, declared.tables.Contents.Contents, declared.tables.TableEntry.TableEntry}
use Rattle.adf_memory.specs.Tables.{block_table, contents_of, entry_table, refused_at}
use Rattle.adf_memory_types.specs.CachedCalls.{IsCheckedCached, is_cached_image}

-- the contents of a volume without caches as of one with them: of type 4 for 2 and 5 for 3, with this many of its free blocks in use
abbrev pub with_caches : ℕ → Contents → Contents
with_caches n c = record {
  kind = c.kind + 2;
  blocks = c.blocks;
  used = c.used + min n c.free;
  free = c.free - min n c.free;
  entries = c.entries;
  data_blocks = c.data_blocks;
  block = c.block;
  root = c.root;
  altered = c.altered;
  created = c.created;
  label_length = c.label_length;
  label = c.label;
}

-- what is told of an accepted image with caches beside the tables
abbrev pub cached_contents : List ℕ → Walk → Tree → Layout → Contents
cached_contents image w t l = with_caches (length (right_blocks image w)) (contents_of (uncached image w) t l)

-- adf_index_types of a volume with directory caches: the tables are those of what fits, as far as there is room, and so are the contents; a refused image
-- leaves the tables as they were. Entries and data blocks together are fewer than the blocks in use, which are fewer than all blocks
pub record FillsWithCaches (image : List ℕ) (old_entries new_entries : List TableEntry) (old_blocks new_blocks : List ℕ) (c : Contents)
    (n : ℕ) : Type 0 where
  pub checked : IsCheckedCached image c.block n
  pub entries : n ≡ 0 → (t : Tree) (l : Layout) → FitsInPlace image t l → new_entries ≡ filled (entry_table t l) old_entries
  pub blocks : n ≡ 0 → (t : Tree) (l : Layout) → FitsInPlace image t l → new_blocks ≡ filled (block_table l) old_blocks
  pub contents : n ≡ 0 → (t : Tree) (l : Layout) (fits : FitsInPlace image t l) → c ≡ cached_contents image fits.cached.walk t l
  pub letters : n ≡ 0 → letters_of_type c.kind ≡ International
  pub few : n ≡ 0 → c.entries + c.data_blocks < c.used
  pub used : n ≡ 0 → c.used < c.blocks
  pub refused : ¬ (n ≡ 0) → c ≡ refused_at c.block
  pub unchanged : ¬ (n ≡ 0) → (new_entries ≡ old_entries) × (new_blocks ≡ old_blocks)

-- adf_index_types: of a volume with directory caches, or of another
pub record FillsAnyTables (image : List ℕ) (old_entries new_entries : List TableEntry) (old_blocks new_blocks : List ℕ) (c : Contents)
    (n : ℕ) : Type 0 where
  pub cached : is_cached_image image ≡ true → FillsWithCaches image old_entries new_entries old_blocks new_blocks c n
  pub others : is_cached_image image ≡ false → FillsTables WithInternational image old_entries new_entries old_blocks new_blocks c n
