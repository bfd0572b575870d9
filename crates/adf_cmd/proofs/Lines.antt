-- Laws of the lines of words and blocks.
use Rattle.std.proofs.Common.{◌≡◌, ◌≤◌, ◌+◌, ◌/◌, ◌++◌, ℕ, List, [], refl, sym, ap, arith, length}
use Rattle.adf_base.specs.Words.{block}
use Rattle.adf_texts.proofs.Ranges.{flat_map_front, flat_map_next}
use Rattle.adf_cmd.specs.Listing.{line_of_word, lines_of, lines_of_blocks, listing}

pub lines_of_none : (b : ℕ) (bytes : List ℕ) → lines_of b bytes 0 ≡ []
unfolding lines_of
lines_of_none b bytes = refl

pub lines_of_more : (b : ℕ) (bytes : List ℕ) (n : ℕ) → lines_of b bytes (n + 1) ≡ lines_of b bytes n ++ line_of_word b bytes n
unfolding lines_of
lines_of_more b bytes n = flat_map_next (line_of_word b bytes) 0 n n (omega arith)

pub blocks_none : (image : List ℕ) → lines_of_blocks image 0 ≡ []
unfolding lines_of_blocks
blocks_none image = refl

pub blocks_more : (image : List ℕ) (n : ℕ) → lines_of_blocks image (n + 1) ≡ lines_of_blocks image n ++ lines_of n (block image n) 128
unfolding lines_of_blocks
blocks_more image n = flat_map_next (λ b. lines_of b (block image b) 128) 0 n n (omega arith)

-- the lines of fewer blocks stand in front
pub listing_front : (image : List ℕ) (n : ℕ) → n ≤ length image / 512 → (rest : List ℕ) × (listing image ≡ lines_of_blocks image n ++ rest)
unfolding lines_of_blocks
listing_front image n h = flat_map_front (λ b. lines_of b (block image b) 128) 0 n (length image / 512) h

pub listing_whole : (image : List ℕ) (n : ℕ) → n ≡ length image / 512 → listing image ≡ lines_of_blocks image n
listing_whole image n e = ap (lines_of_blocks image) (sym e)
