-- What the calls promise that check an image, and those that look up and read by its tables.
-- Letters: t a tree; l its layout; n what a call returns; b a block.
use Rattle.std.specs.Prelude.{◌≡◌, ◌≤◌, ◌<◌, ◌+◌, ◌↔◌, ◌⊎◌, ℕ, List, [], Some, None, drop, length, min, slice_index}
use Rattle.adf_base.specs.declared.hash.Letters.{Letters}
use Rattle.adf_names.specs.{PathTexts.IsPathText, VolumeTypes.letters_of_type}
use Rattle.adf_tree.specs.Tree.{Tree, find_by}
use Rattle.adf_blocks.specs.Sizes.{blocks as blocks_of}
use Rattle.adf_volume.specs.{Counts.counts_of, Fits.FitsBy, Fits.FitsOf, Layout.Layout, Start.IsBegunOf, Types.letters_for, declared.types.Types.Types}
use Rattle.adf_memory.specs.{Areas.node_from, OwnerNumbers.IsOwnerNumber, Rooms.filled, declared.tables.Contents.Contents, declared.verdict.Verdict.Verdict}
use Rattle.adf_memory.specs.Tables.{IsTableOfBy, block_table, bytes_at, contents_of, entry_table, refused_at}
use Rattle.adf_memory.specs.Verdicts.{IsFirstCauseOf, IsVerdictNumber, OnFault, WantsMemory, accepted_by, refused}
use Rattle.adf_memory.specs.declared.tables.TableEntry.{TableEntry}

-- n is 0 if a tree and a layout fit the image where these types are accepted. Else it is the number of the first fault's cause, which block b has, and nothing fits; or
-- memory ran out: then b is 0, and the size, the boot bytes and the root are sound
pub record IsCheckedOf (types : Types) (image : List ℕ) (b n : ℕ) : Type 0 where
  pub number : IsVerdictNumber n
  pub fits : n ≡ 0 → (t : Tree) × (l : Layout) × FitsOf types image t l
  pub first : OnFault n (IsFirstCauseOf types image b n)
  pub none : OnFault n ((t : Tree) (l : Layout) → FitsOf types image t l → ⊥)
  pub memory : WantsMemory n → b ≡ 0
  pub begun : WantsMemory n → IsBegunOf types image

-- adf_check and adf_check_types: the verdict has the counts of what fits, or the block of the fault
pub record ChecksImage (types : Types) (image : List ℕ) (verdict : Verdict) (n : ℕ) : Type 0 where
  pub checked : IsCheckedOf types image verdict.block n
  pub counts : n ≡ 0 → (t : Tree) (l : Layout) → FitsOf types image t l → verdict ≡ accepted_by (letters_for types image) (counts_of image t l)
  pub refused : ¬ (n ≡ 0) → verdict ≡ refused verdict.block

-- adf_owners and adf_owners_types: a room begins with the role of each block; a refused image leaves it as it was
pub record TellsOwners (types : Types) (image old new : List ℕ) (n : ℕ) : Type 0 where
  pub checked : (b : ℕ) × IsCheckedOf types image b n
  pub roles : n ≡ 0 → (b : ℕ) → b < length new → b < blocks_of image → IsOwnerNumber image b (slice_index new b)
  pub behind : (b : ℕ) → blocks_of image ≤ b → slice_index new b ≡ slice_index old b
  pub unchanged : ¬ (n ≡ 0) → new ≡ old

-- adf_index and adf_index_types: the tables are those of what fits, as far as there is room, and so are the contents; a refused image leaves the tables as
-- they were. Entries and data blocks together are fewer than the blocks in use, which are fewer than all blocks
pub record FillsTables (types : Types) (image : List ℕ) (old_entries new_entries : List TableEntry) (old_blocks new_blocks : List ℕ) (c : Contents)
    (n : ℕ) : Type 0 where
  pub checked : IsCheckedOf types image c.block n
  pub entries : n ≡ 0 → (t : Tree) (l : Layout) → FitsOf types image t l → new_entries ≡ filled (entry_table t l) old_entries
  pub blocks : n ≡ 0 → (t : Tree) (l : Layout) → FitsOf types image t l → new_blocks ≡ filled (block_table l) old_blocks
  pub contents : n ≡ 0 → (t : Tree) (l : Layout) → FitsOf types image t l → c ≡ contents_of image t l
  pub letters : n ≡ 0 → letters_of_type c.kind ≡ letters_for types image
  pub few : n ≡ 0 → c.entries + c.data_blocks < c.used
  pub used : n ≡ 0 → c.used < c.blocks
  pub refused : ¬ (n ≡ 0) → c ≡ refused_at c.block
  pub unchanged : ¬ (n ≡ 0) → (new_entries ≡ old_entries) × (new_blocks ≡ old_blocks)

-- adf_find and adf_find_types: whatever the table, n is one of these numbers, and at 0 the node is the root or an entry of it. In the table of a volume with
-- these letters the node is the one that the path leads to. The empty path, which is that of the root, takes no memory
pub record FindsEntry (ls : Letters) (table : List TableEntry) (path : List ℕ) (old new n : ℕ) : Type 0 where
  pub number : (n ≡ 0) ⊎ (n ≡ 1) ⊎ (n ≡ 2) ⊎ WantsMemory n
  pub inside : n ≡ 0 → new ≤ length table
  pub unchanged : ¬ (n ≡ 0) → new ≡ old
  pub found : n ≡ 0 → (t : Tree) (names : List (List ℕ)) → IsTableOfBy ls table t → IsPathText path names → find_by ls t.entries names ≡ Some new
  pub none : n ≡ 1 → (t : Tree) (names : List (List ℕ)) → IsTableOfBy ls table t → IsPathText path names → find_by ls t.entries names ≡ None
  pub bad_path : (n ≡ 2) ↔ ((names : List (List ℕ)) → ¬ IsPathText path names)
  pub empty : path ≡ [] → ¬ WantsMemory n

-- the tables are those of a volume of this tree, by any letters
abbrev pub AreTablesOf : List ℕ → List TableEntry → List ℕ → Tree → Type 0
AreTablesOf image table blocks t = (ls : Letters) × (l : Layout) × FitsBy ls image t l × (table ≡ entry_table t l) × (blocks ≡ block_table l)

-- adf_read: with the tables of a volume the bytes are those of the file from a place on. With any tables they are what the blocks hold that the tables name,
-- up to the first that the image does not have
pub record ReadsFile (image : List ℕ) (table : List TableEntry) (blocks : List ℕ) (node at : ℕ) (old new : List ℕ) (n : ℕ) : Type 0 where
  pub within : n ≤ length new
  pub count : (t : Tree) → AreTablesOf image table blocks t → n ≡ min (length old) (length (drop at (bytes_at t node)))
  pub bytes : (t : Tree) → AreTablesOf image table blocks t → new ≡ filled (drop at (bytes_at t node)) old
  pub any_count : n ≡ min (length old) (length (node_from image table blocks node at))
  pub any_bytes : new ≡ filled (node_from image table blocks node at) old
  pub behind : drop n new ≡ drop n old
