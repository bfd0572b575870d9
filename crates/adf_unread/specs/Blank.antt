-- Blank blocks. Letters: v the bytes of a block; k a number of blocks.
use Rattle.std.specs.Prelude.{ℕ, ◌&&◌, ◌||◌, min, Bool, List, [], ◌∷◌, ◌++◌, codes, replicate, slice_range}
use Rattle.std.specs.Str.{bytes_eq}
use Rattle.std.proofs.Common.{zero, suc}
use Rattle.adf_base.specs.Words.{block}
use Rattle.adf_blocks.specs.{Sizes.blocks, declared.layout.TheConstants.MOST_BLOCKS}

-- the bytes of 0xDEADBEEF, four times
abbrev pub dead_beef : List ℕ
dead_beef = 222 ∷ 173 ∷ 190 ∷ 239 ∷ 222 ∷ 173 ∷ 190 ∷ 239 ∷ 222 ∷ 173 ∷ 190 ∷ 239 ∷ 222 ∷ 173 ∷ 190 ∷ 239 ∷ []

-- 16 bytes are those of a pattern: zeros, 0xF6, 0xDEADBEEF, or a text
abbrev pub is_filling : List ℕ → Bool
is_filling bytes =
    bytes_eq bytes (replicate 16 0)
    || (bytes_eq bytes (replicate 16 246) || (bytes_eq bytes dead_beef || bytes_eq bytes (codes "-=[BAD SECTOR]=-")))

-- a block is 16 such bytes over and over
abbrev pub is_blank_block : List ℕ → Bool
is_blank_block v = bytes_eq (slice_range v 16 512) (slice_range v 0 496) && is_filling (slice_range v 0 16)

-- whether each of the first k blocks is blank
unfoldable pub blank_among : List ℕ → ℕ → List Bool
blank_among image zero = []
blank_among image (suc k) = blank_among image k ++ is_blank_block (block image k) ∷ []

-- whether each block is, as far as the largest volume reaches
abbrev pub blank_marks : List ℕ → List Bool
blank_marks image = blank_among image (min MOST_BLOCKS (blocks image))
