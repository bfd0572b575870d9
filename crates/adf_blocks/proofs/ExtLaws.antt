-- The fields of a written extension block.
use Rattle.std.proofs.Common.{◌≡◌, ◌≤◌, ◌<◌, ℕ, ◌+◌, ◌-◌, ◌*◌, ◌^◌, List, length, ◌∙◌, arith, rules, None, slice_index}
use Rattle.std.proofs.{lemmas.Bool.eq-eqb, lemmas.List.length-reverse}
use Rattle.adf_base.specs.Words.{block, word, with_block, long_sum}
use Rattle.adf_base.proofs.WordLaws.{length_longs, block_written}
use Rattle.adf_blocks.specs.{Forms.first_cause, declared.layout.TheConstants.T_LIST, Fields.Descends, Fields.long}
use Rattle.adf_blocks.specs.declared.layout.TheConstants.{EXTENSION, FIRST_POINTER, OWN_KEY, PARENT, POINTERS, POINTER_COUNT, SECONDARY_TYPE, ST_FILE, TYPE}
use Rattle.adf_blocks.specs.ExtBlock.{ExtFields, FitsExt, ext_block, ext_form, ext_table}
use Rattle.adf_blocks.proofs.ClauseLaws.{no_cause}
use Rattle.adf_blocks.proofs.FieldLaws.{length_sealed_fields, long_number, pointer_number, sum_of_fields, word_of_field}

-- the fields of an extension block fit side by side
pub ext_descends : (e : ExtFields) → FitsExt e → Descends 512 (ext_table e)
ext_descends e fits = search (rules, length_longs, length-reverse)

-- an extension block is a whole block
pub length_ext_block : (e : ExtFields) → FitsExt e → length (ext_block e) ≡ 512
unfolding ext_block
length_ext_block e fits = length_sealed_fields (ext_table e) (ext_descends e fits)

-- the fields of an extension block
pub ext_block-sum : (e : ExtFields) → FitsExt e → long_sum (ext_block e) ≡ 0
unfolding ext_block
ext_block-sum e fits = sum_of_fields (ext_table e) (ext_descends e fits)

pub ext_block-type : (e : ExtFields) → FitsExt e → word (ext_block e) TYPE ≡ T_LIST
unfolding ext_block
ext_block-type e fits = word_of_field (ext_table e) TYPE T_LIST (ext_descends e fits) (search rules) (omega arith) (omega arith)

pub ext_block-own : (e : ExtFields) → FitsExt e → word (ext_block e) OWN_KEY ≡ e.own
unfolding ext_block
ext_block-own e fits = word_of_field (ext_table e) OWN_KEY e.own (ext_descends e fits) (search rules) (omega arith) fits.own

pub ext_block-head : (e : ExtFields) → FitsExt e → word (ext_block e) PARENT ≡ e.head
unfolding ext_block
ext_block-head e fits = word_of_field (ext_table e) PARENT e.head (ext_descends e fits) (search rules) (omega arith) fits.head

pub ext_block-next : (e : ExtFields) → FitsExt e → e.next < 2 ^ 32 → word (ext_block e) EXTENSION ≡ e.next
unfolding ext_block
ext_block-next e fits small = word_of_field (ext_table e) EXTENSION e.next (ext_descends e fits) (search rules) (omega arith) small

pub ext_block-secondary : (e : ExtFields) → FitsExt e → word (ext_block e) SECONDARY_TYPE ≡ ST_FILE
unfolding ext_block
ext_block-secondary e fits = word_of_field (ext_table e) SECONDARY_TYPE ST_FILE (ext_descends e fits) (search rules) (omega arith) (omega arith)

-- a pointer of an extension block, or 0 past the last
pub ext_block-pointer : (e : ExtFields) (j : ℕ) → FitsExt e → j < POINTERS → slice_index e.table j < 2 ^ 32
    → word (ext_block e) (FIRST_POINTER - j) ≡ slice_index e.table j
unfolding ext_block
ext_block-pointer e j fits lt small =
    pointer_number (ext_table e) FIRST_POINTER j e.table (4 * POINTER_COUNT, long (length e.table)) (ext_descends e fits) (search rules)
    (omega (arith, fits.table)) (omega arith) (omega arith) (omega arith)
    ∙ long_number (slice_index e.table j) small

-- an extension block that was written is read
pub ext_block-form : (e : ExtFields) → FitsExt e → first_cause (ext_form e.own e.head (ext_block e)) ≡ None
ext_block-form e fits = search (rules, no_cause, eq-eqb, ext_block-sum, ext_block-type, ext_block-secondary, ext_block-own, ext_block-head)

-- an extension block that was written into an image is read there
pub written_ext_form : (image : List ℕ) (b : ℕ) (e : ExtFields) → FitsExt e → b * 512 + 512 ≤ length image
    → first_cause (ext_form e.own e.head (block (with_block image b (ext_block e)) b)) ≡ None
written_ext_form image b e fits room = rw (block_written image b (ext_block e) room (length_ext_block e fits)) (ext_block-form e fits)
