-- Pages of the bitmap. Bit r of a volume is that of block 2 + r; a set bit means that the block is free.
use Rattle.std.specs.Prelude.{◌+◌, ◌*◌, ◌/◌, ◌%◌, ◌==◌, ℕ, List, [], ◌∷◌, IsBitSet}
use Rattle.adf_base.specs.Words.{word, long_sum, sealed}
use Rattle.adf_blocks.specs.{declared.cause.Cause.TheVariants.BadSum, Forms.Clause, Fields.Field, Fields.block_of_fields, Fields.longs}
use Rattle.adf_blocks.specs.declared.layout.TheConstants.{PAGE_CHECKSUM, PAGE_FIRST}

-- the form of a page
abbrev pub page_form : List ℕ → List Clause
page_form b = (long_sum b == 0, BadSum) ∷ []

-- bit `bit` of a page is set: bit `bit % 32`, counted from the lowest, of word `PAGE_FIRST + bit / 32`
abbrev pub IsFreeBit : List ℕ → ℕ → Type 0
IsFreeBit b bit = IsBitSet (word b (PAGE_FIRST + bit / 32)) (bit % 32)

-- the fields of a page with these words of bits, and their offsets
abbrev pub page_table : List ℕ → List Field
page_table bits = (4 * PAGE_FIRST, longs bits) ∷ []

-- the bytes of a page with these words of bits
unfoldable pub page_block : List ℕ → List ℕ
page_block bits = sealed PAGE_CHECKSUM (block_of_fields (page_table bits))
