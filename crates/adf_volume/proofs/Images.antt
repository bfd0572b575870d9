-- Lengths of blocks and contents, and the numbers of pages and bitmap extension blocks.
use Rattle.std.proofs.Common.{◌≡◌, ℕ, suc, List, [], ◌∷◌, ◌+◌, ◌-◌, ◌/◌, ◌*◌, ◌^◌, ◌<◌, ◌≤◌, arith, refl, ◌∙◌, length, length-append, length-drop, length-take}
use Rattle.std.proofs.lemmas.Grind.{common_steps}
use Rattle.adf_base.specs.Words.{block}
use Rattle.adf_blocks.specs.declared.layout.TheConstants.{MAP_EXT_PAGES, PAGE_BITS, ROOT_PAGES, SIZE}
use Rattle.adf_volume.specs.{Lists.At, Image.area, Image.joined, Image.content, Image.word_in, Image.map_exts_needed}
use Rattle.adf_names.specs.declared.kind.Kind.{Kind, TheVariants.Ofs, TheVariants.Ffs}
use Rattle.adf_blocks.specs.Sizes.{blocks, chunk, count, pages_needed}

-- each of these blocks lies in the image
abbrev pub AreIn : List ℕ → List ℕ → Type 0
AreIn image bs = (i b : ℕ) → At bs i b → b < blocks image

pub block_length : (image : List ℕ) (b : ℕ) → length image ≡ 512 * blocks image → b < blocks image → length (block image b) ≡ 512
unfolding block
block_length image b h l = simp (length-take, length-drop) (omega arith)

pub area_length : (image : List ℕ) (k : Kind) (b : ℕ) → length image ≡ 512 * blocks image → b < blocks image
    → length (area k (block image b)) ≡ chunk k
unfolding area chunk
area_length image Ofs b h l = let z = block_length image b h l in simp (length-take, length-drop) (omega arith)
area_length image Ffs b h l = let z = block_length image b h l in simp (length-take, length-drop) (omega arith)

pub joined_length : (image : List ℕ) (k : Kind) (bs : List ℕ) → length image ≡ 512 * blocks image → AreIn image bs
    → length (joined image k bs) ≡ chunk k * length bs
joined_length image k [] h l = omega arith
joined_length image k (b ∷ bs) h l =
    let ih : length (joined image k bs) ≡ chunk k * length bs = joined_length image k bs h (λ i b z. l (suc i) b z) in
    let a : length (area k (block image b)) ≡ chunk k = area_length image k b h (l 0 b refl) in
    length-append (area k (block image b)) (joined image k bs) ∙ (omega arith)

pub enough_bytes : (k : Kind) (size n : ℕ) → count k size ≡ n → size ≤ chunk k * n
unfolding count chunk
enough_bytes Ofs size n h = omega arith
enough_bytes Ffs size n h = omega arith

-- a file has fewer data blocks than a word counts
pub count_small : (kind : Kind) (size : ℕ) → size < 2 ^ 32 → 1 + count kind size < 2 ^ 32
unfolding count chunk
count_small Ofs size h = omega arith
count_small Ffs size h = omega arith

pub content_length : (image : List ℕ) (k : Kind) (h : ℕ) (bs : List ℕ) → length image ≡ 512 * blocks image → AreIn image bs
    → length bs ≡ count k (word_in image h SIZE)
    → length (content image k h bs) ≡ word_in image h SIZE
unfolding content
content_length image k h bs z l c = grind (arith, common_steps, joined_length, enough_bytes, length-take)

pub page_in : (n b : ℕ) → 2 ≤ b → b < n → (b - 2) / PAGE_BITS < pages_needed n
page_in n b lo hi = omega arith

pub map_exts_high : (p j : ℕ) → ROOT_PAGES + MAP_EXT_PAGES * j < p → j < map_exts_needed p
unfolding map_exts_needed
map_exts_high p j h = omega arith

pub map_exts_low : (p j : ℕ) → j < map_exts_needed p → ROOT_PAGES + MAP_EXT_PAGES * j < p
unfolding map_exts_needed
map_exts_low p j h = omega arith
