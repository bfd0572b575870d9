-- An image as one without caches is as long as the image.
-- Letters: w the walk of the image's survey; copy the bytes of a copy of the image; b a block, bs blocks; i a word, v its value; page, o a page.
use Rattle.std.specs.Prelude.{◌&&◌, ◌==◌, ◌^◌, Option, Some, None, cond, fold, nat_lt, not, slice_index}
use Rattle.std.specs.Int.{bit_at, RustNames.bit_or}
use Rattle.std.proofs.Common.{◌≡◌, ◌≤◌, ◌<◌, ◌∙◌, ◌+◌, ◌-◌, ◌*◌, ◌%◌, ℕ, Bool, true, false, List, [], ◌∷◌, arith, length, refl}
use Rattle.std.proofs.lemmas.{Bool.and_parts, Bool.Decides.nat_tests, List.length-set}
use Rattle.adf_base.specs.Words.{block, with_word}
use Rattle.adf_base.proofs.WordLaws.{length-block, length-with_bytes, length-with_word}
use Rattle.adf_blocks.specs.Sizes.{blocks}
use Rattle.adf_blocks.specs.declared.layout.TheConstants.{PAGE_CHECKSUM}
use Rattle.adf_volume.specs.Walk.{Walk}
use Rattle.adf_uncached.specs.Bits.{bit_of, page_of, with_bit, with_free, with_free_on, with_word_in, word_at, word_of}
use Rattle.adf_uncached.specs.Uncached.{plainly_typed, right_blocks, uncached}

length-with_word_in : (copy : List ℕ) (b i v : ℕ) → b < blocks copy → i < 128 → length (with_word_in copy b i v) ≡ length copy
length-with_word_in copy b i v lt small =
    let whole : b * 512 + 512 ≤ length copy = omega (arith, lt) in
    let held = length-block copy b whole in
    let size : length (with_word (block copy b) i v) ≡ 512 = length-with_word (block copy b) i v (omega (arith, held, small)) ∙ held in
    length-with_bytes copy (b * 512) (with_word (block copy b) i v) (omega (arith, size, whole))

length-with_bit : (copy : List ℕ) (page i bit : ℕ) → page < blocks copy → i < 128 → length (with_bit copy page i bit) ≡ length copy
length-with_bit copy page i bit lt small =
    let first = with_word_in copy page i (bit_or (word_at copy page i) (2 ^ bit)) in
    let same : length first ≡ length copy = length-with_word_in copy page i (bit_or (word_at copy page i) (2 ^ bit)) lt small in
    length-with_word_in first page PAGE_CHECKSUM ((word_at copy page PAGE_CHECKSUM + (2 ^ 32 - 2 ^ bit)) % 2 ^ 32) (omega (arith, lt, same)) (omega arith)
    ∙ same

word_small : (b : ℕ) → word_of b < 128
word_small b = omega arith

length-on_page : (copy : List ℕ) (o : Option ℕ) (b : ℕ) → length (with_free_on copy o b) ≡ length copy
length-on_page copy None b = refl
length-on_page copy (Some page) b = go (nat_lt page (blocks copy) && not (bit_at (word_at copy page (word_of b)) (bit_of b) == 1)) refl
  where
    go : (t : Bool) → (nat_lt page (blocks copy) && not (bit_at (word_at copy page (word_of b)) (bit_of b) == 1)) ≡ t
        → length (cond t (with_bit copy page (word_of b) (bit_of b)) copy) ≡ length copy
    go false e = refl
    go true e =
        let inside = and_parts (nat_lt page (blocks copy)) (not (bit_at (word_at copy page (word_of b)) (bit_of b) == 1)) e in
        length-with_bit copy page (word_of b) (bit_of b) (grind (arith, nat_tests, inside.0)) (word_small b)

length-freed : (w : Walk) (copy : List ℕ) (bs : List ℕ) → length (fold (with_free w) copy bs) ≡ length copy
length-freed w copy [] = refl
length-freed w copy (b ∷ bs) = length-freed w (with_free w copy b) bs ∙ length-on_page copy (page_of w b) b

pub length-uncached : (image : List ℕ) (w : Walk) → length (uncached image w) ≡ length image
length-uncached image w = length-freed w (plainly_typed image) (right_blocks image w) ∙ length-set image 3 (slice_index image 3 - 2)
