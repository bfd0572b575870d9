-- Extension blocks of files.
use Rattle.std.specs.Prelude.{◌≤◌, ◌<◌, ◌*◌, ◌^◌, ℕ, ◌==◌, ◌&&◌, List, [], ◌∷◌, length}
use Rattle.adf_base.specs.Words.{word, long_sum, sealed}
use Rattle.adf_blocks.specs.declared.cause.Cause.TheVariants.{BadSum, BadType, BadOwnKey, BadParent}
use Rattle.adf_blocks.specs.{declared.ext.ExtOut.ExtOut, Fields.Field, Fields.downwards, Fields.block_of_fields, Fields.long, Forms.Clause}
use Rattle.adf_blocks.specs.declared.layout.TheConstants.{CHECKSUM, EXTENSION, FIRST_POINTER, OWN_KEY, PARENT, POINTERS, POINTER_COUNT, SECONDARY_TYPE, ST_FILE}
use Rattle.adf_blocks.specs.declared.layout.TheConstants.{TYPE, T_LIST}

-- the form of an extension block at block `own`, of the file whose header is block `head`
abbrev pub ext_form : ℕ → ℕ → List ℕ → List Clause
ext_form own head b =
    (long_sum b == 0, BadSum)
    ∷ ((word b TYPE == T_LIST) && (word b SECONDARY_TYPE == ST_FILE), BadType)
    ∷ (word b OWN_KEY == own, BadOwnKey)
    ∷ (word b PARENT == head, BadParent)
    ∷ []

-- the fields of an extension block that vary
pub record ExtFields : Type 0 where
  pub own : ℕ
  pub head : ℕ
  pub table : List ℕ
  pub next : ℕ

-- the fields of an extension block to write, as values
abbrev pub ext_fields : ExtOut → ExtFields
ext_fields e = record { own = e.own; head = e.head; table = e.table.now; next = e.next }

-- the fields of an extension block and their offsets, the last first
abbrev pub ext_table : ExtFields → List Field
ext_table e =
    (4 * SECONDARY_TYPE, long ST_FILE)
    ∷ (4 * EXTENSION, long e.next)
    ∷ (4 * PARENT, long e.head)
    ∷ downwards FIRST_POINTER e.table
    ∷ (4 * POINTER_COUNT, long (length e.table))
    ∷ (4 * OWN_KEY, long e.own)
    ∷ (4 * TYPE, long T_LIST)
    ∷ []

-- the bytes of an extension block with these fields
unfoldable pub ext_block : ExtFields → List ℕ
ext_block e = sealed CHECKSUM (block_of_fields (ext_table e))

-- the fields fit an extension block
pub record FitsExt (e : ExtFields) : Type 0 where
  pub own : e.own < 2 ^ 32
  pub head : e.head < 2 ^ 32
  pub table : length e.table ≤ POINTERS
