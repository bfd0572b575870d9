-- The fields of a written bitmap page.
use Rattle.std.proofs.Common.{◌≡◌, ◌≤◌, ◌<◌, ℕ, ◌+◌, ◌*◌, ◌^◌, List, length, refl, arith, rules, ◌∙◌, None, slice_index, IsBitSet, ◌/◌, ◌%◌, ◌↔◌}
use Rattle.adf_base.specs.Words.{block, word, with_block, long_sum}
use Rattle.adf_base.proofs.WordLaws.{block_written, length-with_bytes, length_longs, long_sum-sealed, length-big_bytes}
use Rattle.adf_blocks.specs.declared.layout.TheConstants.{PAGE_BITS, PAGE_CHECKSUM, PAGE_FIRST}
use Rattle.adf_blocks.specs.{Forms.first_cause, Fields.Descends, PageBlock.IsFreeBit, PageBlock.page_block, PageBlock.page_form, PageBlock.page_table}
use Rattle.adf_blocks.proofs.FieldLaws.{length-block_of_fields, long_number, numbers_of_field}

-- the words of bits fit behind the checksum
page_descends : (bits : List ℕ) → length bits ≡ 127 → Descends 512 (page_table bits)
page_descends bits n = search (rules, length_longs)

-- a page is a whole block
pub length_page_block : (bits : List ℕ) → length bits ≡ 127 → length (page_block bits) ≡ 512
unfolding page_block
length_page_block bits n = search (rules, length-block_of_fields, page_descends, length-with_bytes, length-big_bytes)

-- the sum of a page
pub page_block-sum : (bits : List ℕ) → length bits ≡ 127 → long_sum (page_block bits) ≡ 0
unfolding page_block
page_block-sum bits n = search (rules, long_sum-sealed, length-block_of_fields, page_descends)

-- a word of a page's bits
pub page_block-word : (bits : List ℕ) (i : ℕ) → length bits ≡ 127 → i < 127 → slice_index bits i < 2 ^ 32
    → word (page_block bits) (PAGE_FIRST + i) ≡ slice_index bits i
unfolding page_block
page_block-word bits i n lt small =
    numbers_of_field PAGE_CHECKSUM (page_table bits) PAGE_FIRST i bits (omega arith) (page_descends bits n) (search rules) (omega arith) (omega arith)
    ∙ long_number (slice_index bits i) small

-- a bit of a page
pub page_block-bit : (bits : List ℕ) (bit : ℕ) → length bits ≡ 127 → bit < PAGE_BITS → slice_index bits (bit / 32) < 2 ^ 32
    → IsFreeBit (page_block bits) bit ↔ IsBitSet (slice_index bits (bit / 32)) (bit % 32)
page_block-bit bits bit n lt small = search (rules, page_block-word)

-- a page that was written is read
pub page_block-form : (bits : List ℕ) → length bits ≡ 127 → first_cause (page_form (page_block bits)) ≡ None
page_block-form bits n = rw (page_block-sum bits n) refl

-- a page that was written into an image is read there
pub written_page_form : (image : List ℕ) (b : ℕ) (bits : List ℕ) → length bits ≡ 127 → b * 512 + 512 ≤ length image
    → first_cause (page_form (block (with_block image b (page_block bits)) b)) ≡ None
written_page_form image b bits n room = rw (block_written image b (page_block bits) room (length_page_block bits n), page_block-sum bits n) refl
