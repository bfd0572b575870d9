-- The fields of a written OFS data block.
use Rattle.std.proofs.Common.{◌≡◌, ◌≤◌, ℕ, ◌+◌, ◌*◌, List, length, arith, rules, None, slice_range}
use Rattle.std.proofs.lemmas.Bool.{eq-eqb}
use Rattle.adf_base.specs.Words.{block, word, with_block, long_sum}
use Rattle.adf_base.proofs.WordLaws.{block_written}
use Rattle.adf_blocks.specs.declared.layout.TheConstants.{DATA_BYTES, DATA_HEAD, DATA_HELD, DATA_NEXT, DATA_NUMBER, TYPE, T_DATA}
use Rattle.adf_blocks.specs.{Forms.first_cause, Fields.Descends}
use Rattle.adf_blocks.specs.DataBlock.{DataFields, FitsData, data_block, data_form, data_table}
use Rattle.adf_blocks.proofs.{ClauseLaws.no_cause, FieldLaws.bytes_of_field, FieldLaws.length_sealed_fields, FieldLaws.sum_of_fields, FieldLaws.word_of_field}

-- the fields of a data block fit side by side
pub data_descends : (d : DataFields) → FitsData d → Descends 512 (data_table d)
data_descends d fits = search (arith, fits.bytes)

-- a data block is a whole block
pub length_data_block : (d : DataFields) → FitsData d → length (data_block d) ≡ 512
unfolding data_block
length_data_block d fits = length_sealed_fields (data_table d) (data_descends d fits)

-- the fields of a data block
pub data_block-sum : (d : DataFields) → FitsData d → long_sum (data_block d) ≡ 0
unfolding data_block
data_block-sum d fits = sum_of_fields (data_table d) (data_descends d fits)

pub data_block-type : (d : DataFields) → FitsData d → word (data_block d) TYPE ≡ T_DATA
unfolding data_block
data_block-type d fits = word_of_field (data_table d) TYPE T_DATA (data_descends d fits) (search rules) (omega arith) (omega arith)

pub data_block-head : (d : DataFields) → FitsData d → word (data_block d) DATA_HEAD ≡ d.head
unfolding data_block
data_block-head d fits = word_of_field (data_table d) DATA_HEAD d.head (data_descends d fits) (search rules) (omega arith) fits.head

pub data_block-number : (d : DataFields) → FitsData d → word (data_block d) DATA_NUMBER ≡ d.number
unfolding data_block
data_block-number d fits = word_of_field (data_table d) DATA_NUMBER d.number (data_descends d fits) (search rules) (omega arith) fits.number

pub data_block-held : (d : DataFields) → FitsData d → word (data_block d) DATA_HELD ≡ length d.bytes
unfolding data_block
data_block-held d fits =
    word_of_field (data_table d) DATA_HELD (length d.bytes) (data_descends d fits) (search rules) (omega arith) (omega (arith, fits.bytes))

pub data_block-next : (d : DataFields) → FitsData d → word (data_block d) DATA_NEXT ≡ d.next
unfolding data_block
data_block-next d fits = word_of_field (data_table d) DATA_NEXT d.next (data_descends d fits) (search rules) (omega arith) fits.next

pub data_block-bytes : (d : DataFields) → FitsData d → slice_range (data_block d) DATA_BYTES (DATA_BYTES + length d.bytes) ≡ d.bytes
unfolding data_block
data_block-bytes d fits = bytes_of_field (data_table d) DATA_BYTES d.bytes (data_descends d fits) (search rules) (omega arith)

-- a data block that was written is read
pub data_block-form : (d : DataFields) → FitsData d → first_cause (data_form d.head d.number (length d.bytes) d.next (data_block d)) ≡ None
data_block-form d fits = grind (arith, no_cause, eq-eqb, data_block-sum, data_block-type, data_block-head, data_block-number, data_block-held, data_block-next)

-- a data block that was written into an image is read there
pub written_data_form : (image : List ℕ) (b : ℕ) (d : DataFields) → FitsData d → b * 512 + 512 ≤ length image
    → first_cause (data_form d.head d.number (length d.bytes) d.next (block (with_block image b (data_block d)) b)) ≡ None
written_data_form image b d fits room = rw (block_written image b (data_block d) room (length_data_block d fits)) (data_block-form d fits)
