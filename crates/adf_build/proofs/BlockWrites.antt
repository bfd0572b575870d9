-- The content of an image after blocks are written.
use Rattle.std.proofs.Common.{◌≡◌, ℕ, List, [], ◌∷◌, ◌++◌, inl, inr, ◌+◌, ◌*◌, ◌<◌, ◌≤◌, ◌≢◌, length, refl, sym, ap, ◌∙◌, arith}
use Rattle.adf_base.specs.Words.{block, with_block}
use Rattle.adf_base.proofs.WordLaws.{block_written, block_other, length-with_bytes}
use Rattle.adf_volume.specs.Lists.{In}
use Rattle.adf_build.specs.Writes.{with_blocks, AreBlocks, NoneTwice}

pub with_blocks-append : (image : List ℕ) (ps qs : List (ℕ × List ℕ)) → with_blocks image (ps ++ qs) ≡ with_blocks (with_blocks image ps) qs
with_blocks-append image [] qs = refl
with_blocks-append image (p ∷ ps) qs = with_blocks-append (with_block image p.0 p.1) ps qs

pub length-with_blocks : (n : ℕ) (image : List ℕ) (ps : List (ℕ × List ℕ)) → AreBlocks n ps → length image ≡ n * 512
    → length (with_blocks image ps) ≡ n * 512
length-with_blocks n image [] a len = len
length-with_blocks n image (p ∷ ps) a len =
    length-with_blocks n (with_block image p.0 p.1) ps a.2 (length-with_bytes image (p.0 * 512) p.1 (room n p.0 p.1 (length image) a.0 a.1 len) ∙ len)
  where
    room : (n b : ℕ) (bs : List ℕ) (l : ℕ) → b < n → length bs ≡ 512 → l ≡ n * 512 → b * 512 + length bs ≤ l
    room n b bs l h e f = omega arith

step : (n : ℕ) (image : List ℕ) (b : ℕ) (bs : List ℕ) → b < n → length bs ≡ 512 → length image ≡ n * 512
    → (length (with_block image b bs) ≡ n * 512) × (b * 512 + 512 ≤ length image)
step n image b bs h e f = let g : b * 512 + 512 ≤ length image = omega arith in (length-with_bytes image (b * 512) bs (omega arith) ∙ f, g)

-- a block that was not written
pub with_blocks_other : (n : ℕ) (image : List ℕ) (ps : List (ℕ × List ℕ)) (b : ℕ) → AreBlocks n ps → length image ≡ n * 512
    → ((q : ℕ × List ℕ) → In ps q → q.0 ≢ b)
    → block (with_blocks image ps) b ≡ block image b
with_blocks_other n image [] b a len f = refl
with_blocks_other n image (p ∷ ps) b a len f =
    let s = step n image p.0 p.1 a.0 a.1 len in
    with_blocks_other n (with_block image p.0 p.1) ps b a.2 s.0 (λ q i. f q (inr i))
    ∙ block_other image p.0 b p.1 s.1 a.1 (λ e. f p (inl refl) (sym e))

-- a block that was written
pub with_blocks_same : (n : ℕ) (image : List ℕ) (ps : List (ℕ × List ℕ)) (b : ℕ) (bs : List ℕ) → AreBlocks n ps → NoneTwice ps
    → length image ≡ n * 512 → In ps (b, bs) → block (with_blocks image ps) b ≡ bs
with_blocks_same n image [] b bs a d len i = absurd i
with_blocks_same n image (p ∷ ps) b bs a d len (inl e) =
    let s = step n image p.0 p.1 a.0 a.1 len in
    let at : p.0 ≡ b = ap (λ q. q.0) e in
    with_blocks_other n (with_block image p.0 p.1) ps b a.2 s.0 (λ q i h. d.0 q i (at ∙ sym h))
    ∙ ap (block (with_block image p.0 p.1)) (sym at)
    ∙ block_written image p.0 p.1 s.1 a.1
    ∙ ap (λ q. q.1) e
with_blocks_same n image (p ∷ ps) b bs a d len (inr i) =
    let s = step n image p.0 p.1 a.0 a.1 len in
    with_blocks_same n (with_block image p.0 p.1) ps b bs a.2 d.1 s.0 i
