-- Sound files.
-- Letters: w the walk of a survey, fs its findings; n a file's node; h its header's block; m a position in its table;
-- k the number of a data block, from 0.
use Rattle.std.specs.Prelude.{◌≡◌, ◌*◌, ◌/◌, ◌<◌, ◌&&◌, ℕ, Bool, true, false, not, List, [], ◌∷◌, ◌++◌, length, Option, Some}
use Rattle.std.specs.List.{filter}
use Rattle.std.proofs.Common.{zero, suc}
use Rattle.adf_blocks.specs.{declared.cause.Cause.Cause, Sizes.blocks}
use Rattle.adf_blocks.specs.declared.cause.Cause.TheVariants.{BadComment, BadFirst, BadName, SameName, WrongSlot}
use Rattle.adf_blocks.specs.declared.layout.TheConstants.{EXTENSION, POINTERS, SECONDARY_TYPE, ST_FILE}
use Rattle.adf_volume.specs.{Image.content, Image.kind_of, Image.table_word, Image.word_in, Lists.At, Made.datas_in}
use Rattle.adf_volume.specs.Walk.{Role, data_count, node_block, Walk, Role.Head}
use Rattle.adf_findings.specs.{Sound.IsSound, Survey.FindingValue}

-- a file: the image, the block of its header, and its data blocks in order
pub record FileValue : Type 0 where
  pub image : List ℕ
  pub head : ℕ
  pub blocks : List ℕ

-- each data block is inside the image, and their number is that for the size
pub record HasItsBlocks (f : FileValue) : Type 0 where
  pub whole : length f.image ≡ 512 * blocks f.image
  pub inside : (k b : ℕ) → At f.blocks k b → b < blocks f.image
  pub many : length f.blocks ≡ data_count f.image f.head

-- the content of the file
abbrev pub file_content : FileValue → List ℕ
file_content f = content f.image (kind_of f.image) f.head f.blocks

-- entry n is sound, and its header is a file's
abbrev pub IsSoundFile : List ℕ → Walk → List FindingValue → ℕ → Type 0
IsSoundFile image w fs n =
    IsSound image w fs n (node_block w n) × (word_in image (node_block w n) SECONDARY_TYPE ≡ ST_FILE)

-- a header with this cause is itself, and so are the words that tell where its file's blocks are
abbrev pub is_harmless : Cause → Bool
is_harmless BadName = true
is_harmless BadComment = true
is_harmless WrongSlot = true
is_harmless BadFirst = true
is_harmless SameName = true
is_harmless _ = false

-- the part is a header
abbrev pub is_head : Option Role → Bool
is_head (Some (Head n p s j)) = true
is_head _ = false

-- a finding that leaves a file its blocks: a harmless one of a header
abbrev pub is_light : FindingValue → Bool
is_light f = is_head f.part && is_harmless f.cause

-- the other findings
abbrev pub grave : List FindingValue → List FindingValue
grave fs = filter (λ f. not (is_light f)) fs

-- the findings that count: the grave ones, or all
abbrev pub counting : Bool → List FindingValue → List FindingValue
counting true fs = grave fs
counting false fs = fs

-- file n of a walk
abbrev pub file_in : List ℕ → Walk → ℕ → FileValue
file_in image w n = record { image = image; head = node_block w n; blocks = datas_in w n }

-- block m of a table: a header, then its extension blocks, each with a pointer to the next
abbrev pub member_from : List ℕ → ℕ → ℕ → ℕ
member_from image h zero = h
member_from image h (suc m) = word_in image (member_from image h m) EXTENSION

-- the pointer to data block k + 1 in the table of a file
abbrev pub named_from : List ℕ → ℕ → ℕ → ℕ
named_from image h k = word_in image (member_from image h (k / POINTERS)) (table_word k)

-- the pointers to the first data blocks in the table of a file
abbrev pub names_from : List ℕ → ℕ → ℕ → List ℕ
names_from image h zero = []
names_from image h (suc k) = names_from image h k ++ named_from image h k ∷ []

-- the file with its header at a block, from its table
abbrev pub file_from : List ℕ → ℕ → FileValue
file_from image h = record { image = image; head = h; blocks = names_from image h (data_count image h) }
