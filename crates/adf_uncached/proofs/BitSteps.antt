-- The bits of blocks, as they are read and set.
-- Letters: b a block; i a word, v its value.
use Rattle.std.specs.Prelude.{◌*◌}
use Rattle.std.proofs.Common.{◌≡◌, ◌≤◌, ◌∙◌, ◌+◌, ◌<◌, ℕ, List, arith, length}
use Rattle.adf_base.specs.Words.{block, with_word}
use Rattle.adf_base.proofs.WordLaws.{length-block, length-with_bytes, length-with_word}
use Rattle.adf_uncached.specs.Bits.{with_word_in}

-- a word that is written leaves the block whole
pub whole_again : (image : List ℕ) (b i v : ℕ) → b * 512 + 512 ≤ length image → i < 128 → b * 512 + 512 ≤ length (with_word_in image b i v)
whole_again image b i v h lt =
    let held = length-block image b h in
    let size : length (with_word (block image b) i v) ≡ 512 = length-with_word (block image b) i v (omega (arith, held, lt)) ∙ held in
    let same = length-with_bytes image (b * 512) (with_word (block image b) i v) (omega (arith, size, h)) in
    omega (arith, same, h)
