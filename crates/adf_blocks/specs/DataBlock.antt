-- Data blocks of OFS files.
use Rattle.std.specs.Prelude.{◌≤◌, ◌<◌, ◌*◌, ◌^◌, ℕ, ◌==◌, ◌&&◌, List, [], ◌∷◌, length}
use Rattle.adf_base.specs.Words.{word, long_sum, sealed}
use Rattle.adf_blocks.specs.declared.cause.Cause.TheVariants.{BadSum, BadType, BadData}
use Rattle.adf_blocks.specs.declared.«data».DataOut.{DataOut}
use Rattle.adf_blocks.specs.declared.layout.TheConstants.{CHECKSUM, DATA_BYTES, DATA_HEAD, DATA_HELD, DATA_NEXT, DATA_NUMBER, DATA_ROOM, TYPE, T_DATA}
use Rattle.adf_blocks.specs.{Fields.Field, Fields.block_of_fields, Fields.long, Forms.Clause}

-- the form of data block `number`, from 1, of the file with header `head`: `held` bytes; the next one is `next` or 0
abbrev pub data_form : ℕ → ℕ → ℕ → ℕ → List ℕ → List Clause
data_form head number held next b =
    (long_sum b == 0, BadSum)
    ∷ (word b TYPE == T_DATA, BadType)
    ∷ ((word b DATA_HEAD == head) && (word b DATA_NUMBER == number) && (word b DATA_HELD == held) && (word b DATA_NEXT == next), BadData)
    ∷ []

-- the fields of a data block
pub record DataFields : Type 0 where
  pub head : ℕ
  pub number : ℕ
  pub next : ℕ
  pub bytes : List ℕ

-- the fields of a data block to write, as values
abbrev pub data_fields : DataOut → DataFields
data_fields d = record { head = d.head; number = d.number; next = d.next; bytes = d.bytes.now }

-- the fields of a data block and their offsets, the last first
abbrev pub data_table : DataFields → List Field
data_table d =
    (DATA_BYTES, d.bytes)
    ∷ (4 * DATA_NEXT, long d.next)
    ∷ (4 * DATA_HELD, long (length d.bytes))
    ∷ (4 * DATA_NUMBER, long d.number)
    ∷ (4 * DATA_HEAD, long d.head)
    ∷ (4 * TYPE, long T_DATA)
    ∷ []

-- the bytes of a data block with these fields
unfoldable pub data_block : DataFields → List ℕ
data_block d = sealed CHECKSUM (block_of_fields (data_table d))

-- the fields fit a data block
pub record FitsData (d : DataFields) : Type 0 where
  pub head : d.head < 2 ^ 32
  pub number : d.number < 2 ^ 32
  pub next : d.next < 2 ^ 32
  pub bytes : length d.bytes ≤ DATA_ROOM
