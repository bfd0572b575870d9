-- The bytes that tables tell of files.
-- Letters: b a block, bs blocks; n a node; at a place in a file.
use Rattle.std.specs.Prelude.{◌≡◌, ◌<◌, ◌≤◌, ◌*◌, ◌-◌, ◌/◌, ◌%◌, ℕ, List, [], ◌∷◌, Option, Some, None, length, take, drop, get_or, slice_get, cond, nat_lt}
use Rattle.std.proofs.Common.{zero, suc}
use Rattle.adf_names.specs.declared.kind.Kind.{Kind}
use Rattle.adf_blocks.specs.Sizes.{blocks, chunk}
use Rattle.adf_volume.specs.Image.{joined, kind_of}
use Rattle.adf_memory.specs.declared.tables.TableEntry.{TableEntry}

-- the blocks at the front of a table, up to the first that the image does not have
abbrev pub front_blocks : List ℕ → List ℕ → List ℕ
front_blocks image [] = []
front_blocks image (b ∷ bs) = cond (nat_lt b (blocks image)) (b ∷ front_blocks image bs) []

-- what the blocks of a table hold from a place on, up to the first block that the image does not have
abbrev pub bytes_from : List ℕ → Kind → List ℕ → ℕ → List ℕ
bytes_from image kind table at = drop (at % chunk kind) (joined image kind (front_blocks image (drop (at / chunk kind) table)))

-- of these, what belongs to a file: its blocks begin at its first, and its bytes end at its size
abbrev pub file_bytes_from : List ℕ → TableEntry → List ℕ → ℕ → List ℕ
file_bytes_from image file table at = take (file.size - at) (bytes_from image (kind_of image) (drop file.first table) at)

-- the bytes of what may be an entry
abbrev pub entry_from : List ℕ → Option TableEntry → List ℕ → ℕ → List ℕ
entry_from image None table at = []
entry_from image (Some file) table at = file_bytes_from image file table at

-- the bytes of node n by the tables, whatever they hold: none of the root and past the last entry
abbrev pub node_from : List ℕ → List TableEntry → List ℕ → ℕ → ℕ → List ℕ
node_from image entries table zero at = []
node_from image entries table (suc i) at = entry_from image (slice_get entries i) table at

-- the table begins with blocks ds, which the image has
pub record AreBlocksOf (image table ds : List ℕ) : Type 0 where
  pub whole : length image ≡ 512 * blocks image
  pub front : take (length ds) table ≡ ds
  pub inside : (i : ℕ) → i < length ds → get_or ds i 0 < blocks image

-- the table has the data blocks ds of a file from the file's first on, and they hold as many bytes as it has
pub record AreDatasOf (image : List ℕ) (file : TableEntry) (table ds : List ℕ) : Type 0 where
  pub listed : AreBlocksOf image (drop file.first table) ds
  pub enough : file.size ≤ chunk (kind_of image) * length ds

-- the bytes of a file whose data blocks are ds
abbrev pub bytes_in_blocks : List ℕ → TableEntry → List ℕ → List ℕ
bytes_in_blocks image file ds = take file.size (joined image (kind_of image) ds)
