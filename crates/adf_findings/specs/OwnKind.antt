-- What the entries of a survey tell of the type of their volume.
-- Letters: w the walk of a survey; v a result; b the number of a block, h that of a header; n that of an entry; k a number of blocks, or of a
-- data block; t a tally.
use Rattle.std.specs.Prelude.{ℕ, ◌+◌, ◌-◌, ◌==◌, ◌&&◌, ◌||◌, Bool, true, false, cond, nat_le, nat_lt, not, List, Option, Some, None, set, slice_get}
use Rattle.std.specs.{Prelude.slice_index, Prelude.slice_range, Option.unwrap_or, Str.bytes_eq}
use Rattle.std.proofs.Common.{zero, suc}
use Rattle.adf_base.specs.{Hash.slot_by, Words.block, Words.long_sum}
use Rattle.adf_base.specs.declared.hash.Letters.{Letters, TheVariants.Ascii, TheVariants.International}
use Rattle.adf_names.specs.{Texts.is_name, VolumeTypes.type_number}
use Rattle.adf_names.specs.declared.kind.Kind.{Kind, TheVariants.Ofs, TheVariants.Ffs}
use Rattle.adf_blocks.specs.Sizes.{blocks}
use Rattle.adf_blocks.specs.declared.layout.TheConstants.{DATA_HEAD, OWN_KEY, SECONDARY_TYPE, SIZE, ST_FILE, TYPE, T_DATA, T_SHORT}
use Rattle.adf_volume.specs.{Image.kind_of, Image.letters_of, Image.name_of, Image.word_in, Walk.heads, Walk.node_block, Walk.Walk, Parts.entry_of}
use Rattle.adf_volume.specs.Owners.{owner_at}
use Rattle.adf_findings.specs.{WalkOwners.data_number_of, declared.found.ChainPlace.ChainPlace, declared.own_kind.Tally.Tally, Found.places_of}
use Rattle.adf_findings.specs.{Members.number_at, Members.owning_entry, Sound.says_data_of, SurveyResult.SurveyValue}
use Rattle.adf_findings.specs.declared.own_kind.TheConstants.{FILES_THAT_TELL}

-- block b is filled with a pattern, as by a program that could not read it: its second half repeats its first
abbrev pub is_filled : List ℕ → ℕ → Bool
is_filled image b = nat_lt b (blocks image) && bytes_eq (slice_range (block image b) 0 256) (slice_range (block image b) 256 512)

-- block h claims to be a file's header
abbrev pub claims_file : List ℕ → ℕ → Bool
claims_file image h = (word_in image h TYPE == T_SHORT) && (word_in image h OWN_KEY == h) && (word_in image h SECONDARY_TYPE == ST_FILE)

-- block b says that it is an OFS data block of a file
abbrev pub claims_data : List ℕ → ℕ → Bool
claims_data image b =
    nat_lt b (blocks image) && (word_in image b TYPE == T_DATA) && claims_file image (word_in image b DATA_HEAD) && (long_sum (block image b) == 0)

-- whether block b says that it is OFS data block k of the file with its header at block h; nothing of one that is filled, or is another one
abbrev pub kind_said : List ℕ → (h k b : ℕ) → Option Bool
kind_said image h k b = cond (says_data_of image h k b) (Some true) (cond (is_filled image b || claims_data image b) None (Some false))

-- the same of the data block of the walk at block b, of its file; nothing of other blocks
abbrev pub said_at : List ℕ → Walk → ℕ → Option Bool
said_at image w b = cond (number_at w b == 0) None (kind_said image (node_block w (unwrap_or (owning_entry w b) 0)) (number_at w b) b)

-- the same by what is kept of blocks and nodes
abbrev pub said_in : List ℕ → SurveyValue → ℕ → Option Bool
said_in image v b =
    cond (data_number_of (owner_at v.owners b) == 0) None
    (kind_said image (slice_index v.nodes (entry_of (owner_at v.owners b))) (data_number_of (owner_at v.owners b)) b)

-- a tally with one more block
abbrev pub tallied : Tally → Option Bool → Tally
tallied t None = t
tallied t (Some true) = record { says = t.says + 1; others = t.others }
tallied t (Some false) = record { says = t.says; others = t.others + 1 }

-- how many of the data blocks at the first k blocks say so, and how many tell against it
unfoldable pub tally : List ℕ → Walk → ℕ → Tally
tally image w zero = record { says = 0; others = 0 }
tally image w (suc k) = tallied (tally image w k) (said_at image w k)

-- how many of the entries 1 to n pass a test
unfoldable pub passing : (ℕ → Bool) → ℕ → ℕ
passing test zero = 0
passing test (suc n) = passing test n + cond (test (suc n)) 1 0

-- entry n is a file whose size is not 0
abbrev pub is_full_file : List ℕ → Walk → ℕ → Bool
is_full_file image w n = (word_in image (node_block w n) SECONDARY_TYPE == ST_FILE) && not (word_in image (node_block w n) SIZE == 0)

-- the slot of a position, if there is one
abbrev pub slot_of_place : Option ChainPlace → ℕ
slot_of_place None = 0
slot_of_place (Some c) = c.slot

-- the slot that the header of entry n is in
abbrev pub slot_of_entry : Walk → ℕ → ℕ
slot_of_entry w n = slot_of_place (slice_get (places_of w) (n - 1))

-- the name of entry n is valid, and by these letters its slot is the one that its header is in
abbrev pub is_in_slot : Letters → List ℕ → Walk → ℕ → Bool
is_in_slot letters image w n =
    is_name (name_of image (node_block w n)) && (slot_by letters (name_of image (node_block w n)) == slot_of_entry w n)

-- whether a volume of a kind is of the other one, by the tally of its data blocks and the number of files that are not empty:
-- one of FFS, if more say that they are OFS ones than do not; one of OFS, if there are FILES_THAT_TELL files or more, but no such block
abbrev pub is_other_kind : Kind → Tally → ℕ → Bool
is_other_kind Ofs t files = (t.says + t.others == 0) && nat_le FILES_THAT_TELL files
is_other_kind Ffs t files = nat_lt t.others t.says

-- the same of the entries of a walk
abbrev pub has_other_kind : List ℕ → Walk → Bool
has_other_kind image w = is_other_kind (kind_of image) (tally image w (blocks image)) (passing (is_full_file image w) (heads w))

-- the other kind
abbrev pub other_kind : Kind → Kind
other_kind Ofs = Ffs
other_kind Ffs = Ofs

-- the other letters
abbrev pub other_letters : Letters → Letters
other_letters Ascii = International
other_letters International = Ascii

-- more entries of the walk are in the slots of their names by the other letters than by those of the type
abbrev pub has_other_letters : List ℕ → Walk → Bool
has_other_letters image w =
    nat_lt (passing (is_in_slot (letters_of image) image w) (heads w)) (passing (is_in_slot (other_letters (letters_of image)) image w) (heads w))

-- the type of an image; if its kind or its letters are others, the one of 0 to 3 that has these
abbrev pub type_with : List ℕ → (kind letters : Bool) → ℕ
type_with image kind letters =
    cond (kind || letters)
    (type_number (cond letters (other_letters (letters_of image)) (letters_of image)) (cond kind (other_kind (kind_of image)) (kind_of image)))
    (slice_index image 3)

-- the type that the entries of the walk tell
abbrev pub told_type : List ℕ → Walk → ℕ
told_type image w = type_with image (has_other_kind image w) (has_other_letters image w)

-- the type is not the one that the entries of the walk tell
abbrev pub is_mistyped : List ℕ → Walk → Bool
is_mistyped image w = not (told_type image w == slice_index image 3)

-- the image with this type
abbrev pub retyped : List ℕ → ℕ → List ℕ
retyped image type = set image 3 type
