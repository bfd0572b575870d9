-- What the call promises that reads files by the tables of volumes of any type.
-- Letters: t a tree; l its layout; n what a call returns.
use Rattle.std.specs.Prelude.{◌≡◌, ℕ, List, drop, length, min}
use Rattle.adf_tree.specs.Tree.{Tree}
use Rattle.adf_volume.specs.Layout.{Layout}
use Rattle.adf_cached_files.specs.InPlace.{FitsInPlace}
use Rattle.adf_memory.specs.{CheckCalls.ReadsFile, Rooms.filled, Tables.block_table, Tables.bytes_at, Tables.entry_table}
use Rattle.adf_memory.specs.declared.tables.TableEntry.{TableEntry}

-- the tables are those of a volume of this tree, with directory caches
abbrev pub AreTablesInPlace : List ℕ → List TableEntry → List ℕ → Tree → Type 0
AreTablesInPlace image table blocks t = (l : Layout) × FitsInPlace image t l × (table ≡ entry_table t l) × (blocks ≡ block_table l)

-- adf_read: with the tables of a volume, also of one with directory caches, the bytes are those of the file from a place on
pub record ReadsAnyFile (image : List ℕ) (table : List TableEntry) (blocks : List ℕ) (node at : ℕ) (old new : List ℕ) (n : ℕ) : Type 0 where
  pub reads : ReadsFile image table blocks node at old new n
  pub cached_count : (t : Tree) → AreTablesInPlace image table blocks t → n ≡ min (length old) (length (drop at (bytes_at t node)))
  pub cached_bytes : (t : Tree) → AreTablesInPlace image table blocks t → new ≡ filled (drop at (bytes_at t node)) old
