-- The headers of directories and files.
use Rattle.std.specs.Prelude.{◌≡◌, ◌≤◌, ◌<◌, ◌*◌, ◌^◌, ℕ, ◌==◌, if◌then◌else◌, ◌&&◌, ◌||◌, not, nat_le, Bool, true, false, List, [], ◌∷◌, length, slice_index}
use Rattle.std.specs.Prelude.{take}
use Rattle.adf_base.specs.{Words.word, Words.long_sum, Words.sealed, Hash.slot_by, declared.hash.Letters.Letters, declared.hash.Letters.TheVariants.Ascii}
use Rattle.adf_names.specs.{Texts.is_name, declared.meta.Meta.Meta}
use Rattle.adf_names.specs.declared.kind.Kind.{Kind, TheVariants.Ofs, TheVariants.Ffs}
use Rattle.adf_blocks.specs.declared.cause.Cause.TheVariants.{BadSum, BadType, Link, BadOwnKey, BadParent, BadName, BadComment, WrongSlot, BadFirst}
use Rattle.adf_blocks.specs.declared.head.HeadBody.{HeadBody, TheVariants.Dir, TheVariants.File}
use Rattle.adf_blocks.specs.{declared.head_out.HeadOut.HeadOut, Forms.Clause, Forms.stamp_at, Forms.text_at}
use Rattle.adf_blocks.specs.declared.head_out.HeadOutBody.{HeadOutBody, TheVariants.Dir as DirOut, TheVariants.File as FileOut}
use Rattle.adf_blocks.specs.declared.layout.TheConstants.{CHECKSUM, COMMENT, DATE, EXTENSION, FIRST_DATA, FIRST_POINTER, FIRST_SLOT, NAME, NEXT_IN_CHAIN}
use Rattle.adf_blocks.specs.declared.layout.TheConstants.{OWN_KEY, PARENT, POINTERS, POINTER_COUNT, PROTECTION, SECONDARY_TYPE, SIZE, SLOTS, ST_DIR, ST_FILE}
use Rattle.adf_blocks.specs.declared.layout.TheConstants.{ST_LINK_DIR, ST_LINK_FILE, ST_SOFT_LINK, TYPE, T_SHORT}
use Rattle.adf_blocks.specs.Fields.{Field, downwards, block_of_fields, long, longs, stamp, text}

-- the secondary types of the three links: soft, hard to a directory, hard to a file
abbrev pub is_link : ℕ → Bool
is_link t = (t == ST_SOFT_LINK) || (t == ST_LINK_DIR) || (t == ST_LINK_FILE)

-- the secondary types of a directory and a file
abbrev pub is_entry : ℕ → Bool
is_entry t = (t == ST_DIR) || (t == ST_FILE)

-- the primary type is that of a header, and the secondary type that of an entry or a link
abbrev pub has_type : List ℕ → Bool
has_type b = (word b TYPE == T_SHORT) && (is_entry (word b SECONDARY_TYPE) || is_link (word b SECONDARY_TYPE))

-- the text at a byte is a valid name
abbrev pub is_name_at : List ℕ → ℕ → Bool
is_name_at b at = nat_le (slice_index b at) 30 && is_name (text_at b at)

-- whether a kind is OFS
abbrev pub is_ofs : Kind → Bool
is_ofs Ofs = true
is_ofs Ffs = false

-- an OFS file that is not empty points twice to its first data block
abbrev pub has_first : Kind → List ℕ → Bool
has_first kind b =
    not (is_ofs kind && (word b SECONDARY_TYPE == ST_FILE) && not (word b SIZE == 0))
    || (word b FIRST_DATA == word b FIRST_POINTER)

-- the form of a header at block `own`, in the chain of a slot of the directory whose block is `parent`; names have these letters
abbrev pub head_form_by : Letters → Kind → ℕ → ℕ → ℕ → List ℕ → List Clause
head_form_by letters kind own parent slot b =
    (long_sum b == 0, BadSum)
    ∷ (has_type b, BadType)
    ∷ (not (is_link (word b SECONDARY_TYPE)), Link)
    ∷ (word b OWN_KEY == own, BadOwnKey)
    ∷ (word b PARENT == parent, BadParent)
    ∷ (is_name_at b NAME, BadName)
    ∷ (nat_le (slice_index b COMMENT) 79, BadComment)
    ∷ (slot_by letters (text_at b NAME) == slot, WrongSlot)
    ∷ (has_first kind b, BadFirst)
    ∷ []

-- the form of a header on volumes of types 0 and 1
abbrev pub head_form : Kind → ℕ → ℕ → ℕ → List ℕ → List Clause
head_form = head_form_by Ascii

-- what holds of every header accepted by its reader
pub record IsHead (b : List ℕ) : Type 0 where
  pub name_len : slice_index b NAME ≤ 30
  pub name : is_name (text_at b NAME) ≡ true
  pub comment_len : slice_index b COMMENT ≤ 79

-- the metadata of a header
abbrev pub meta_at : List ℕ → Meta
meta_at b = record { comment = text_at b COMMENT; protect = word b PROTECTION; stamp = stamp_at b DATE }

-- the metadata of any block read as a header: the comment is cut to 79 bytes
abbrev pub meta_stated : List ℕ → Meta
meta_stated b = record { comment = take 79 (text_at b COMMENT); protect = word b PROTECTION; stamp = stamp_at b DATE }

-- the body of a header, by its secondary type
abbrev pub body_at : List ℕ → HeadBody
body_at b = if word b SECONDARY_TYPE == ST_DIR then Dir else File (word b SIZE) (word b EXTENSION)

-- the fields of a header that depend on its type: for a directory the first header of each slot's chain;
-- for a file its size, its first data blocks and its first extension block
pub data BodyFields : Type 0 where
  DirFields : (slots : List ℕ) → BodyFields
  FileFields : (size : ℕ) (table : List ℕ) (ext : ℕ) → BodyFields

-- the fields of a header that vary
pub record HeadFields : Type 0 where
  pub own : ℕ
  pub parent : ℕ
  pub next : ℕ
  pub name : List ℕ
  pub meta : Meta
  pub body : BodyFields

-- the body of a header to write, as values
abbrev pub body_fields : HeadOutBody → BodyFields
body_fields (DirOut slots) = DirFields slots
body_fields (FileOut size table ext) = FileFields size table.now ext

-- the fields of a header to write, as values
abbrev pub head_fields : HeadOut → HeadFields
head_fields h = record { own = h.own; parent = h.parent; next = h.next; name = h.name.now; meta = h.meta.now; body = body_fields h.body }

-- the number of pointers to data blocks
abbrev pub count_of : BodyFields → ℕ
count_of (DirFields slots) = 0
count_of (FileFields size table ext) = length table

-- the first data block, or 0
abbrev pub first_of : BodyFields → ℕ
first_of (DirFields slots) = 0
first_of (FileFields size table ext) = slice_index table 0

-- the slots, or the pointers from FIRST_POINTER down
abbrev pub table_of : BodyFields → Field
table_of (DirFields slots) = (4 * FIRST_SLOT, longs slots)
table_of (FileFields size table ext) = downwards FIRST_POINTER table

-- the size of a file, 0 for a directory
abbrev pub size_of : BodyFields → ℕ
size_of (DirFields slots) = 0
size_of (FileFields size table ext) = size

-- the first extension block, or 0
abbrev pub ext_of : BodyFields → ℕ
ext_of (DirFields slots) = 0
ext_of (FileFields size table ext) = ext

-- the secondary type
abbrev pub secondary_of : BodyFields → ℕ
secondary_of (DirFields slots) = ST_DIR
secondary_of (FileFields size table ext) = ST_FILE

-- the fields of a header and their offsets, the last first
abbrev pub head_table : HeadFields → List Field
head_table h =
    (4 * SECONDARY_TYPE, long (secondary_of h.body))
    ∷ (4 * EXTENSION, long (ext_of h.body))
    ∷ (4 * PARENT, long h.parent)
    ∷ (4 * NEXT_IN_CHAIN, long h.next)
    ∷ (NAME, text h.name)
    ∷ (4 * DATE, stamp h.meta.stamp)
    ∷ (COMMENT, text h.meta.comment)
    ∷ (4 * SIZE, long (size_of h.body))
    ∷ (4 * PROTECTION, long h.meta.protect)
    ∷ table_of h.body
    ∷ (4 * FIRST_DATA, long (first_of h.body))
    ∷ (4 * POINTER_COUNT, long (count_of h.body))
    ∷ (4 * OWN_KEY, long h.own)
    ∷ (4 * TYPE, long T_SHORT)
    ∷ []

-- the bytes of a header with these fields
unfoldable pub head_block : HeadFields → List ℕ
head_block h = sealed CHECKSUM (block_of_fields (head_table h))

-- the pointers fit a header
abbrev pub FitsTable : BodyFields → Type 0
FitsTable (DirFields slots) = Unit {0}
FitsTable (FileFields size table ext) = length table ≤ POINTERS

-- the slots or pointers fit a header
abbrev pub FitsBody : BodyFields → Type 0
FitsBody (DirFields slots) = length slots ≡ SLOTS
FitsBody (FileFields size table ext) = length table ≤ POINTERS

-- the fields fit a header
pub record FitsHead (h : HeadFields) : Type 0 where
  pub own : h.own < 2 ^ 32
  pub parent : h.parent < 2 ^ 32
  pub name : is_name h.name ≡ true
  pub comment : length h.meta.comment ≤ 79
  pub body : FitsBody h.body

-- the size and the first extension block fit in words
pub record FitsBodyWords (b : BodyFields) : Type 0 where
  pub size : size_of b < 2 ^ 32
  pub ext : ext_of b < 2 ^ 32

-- the body that a reader returns for this body
abbrev pub body_stated : BodyFields → HeadBody
body_stated (DirFields slots) = Dir
body_stated (FileFields size table ext) = File size ext
