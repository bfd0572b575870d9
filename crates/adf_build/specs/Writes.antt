-- Blocks written one after another into an image.
use Rattle.std.specs.Prelude.{◌≡◌, ◌<◌, ◌≢◌, ℕ, List, [], ◌∷◌, length}
use Rattle.adf_base.specs.Words.{block, with_block}
use Rattle.adf_volume.specs.Lists.{In}

-- an image after these blocks are written, in the order of the list
abbrev pub with_blocks : List ℕ → List (ℕ × List ℕ) → List ℕ
with_blocks image [] = image
with_blocks image (p ∷ ps) = with_blocks (with_block image p.0 p.1) ps

-- each block is within n blocks and has 512 bytes
abbrev pub AreBlocks : ℕ → List (ℕ × List ℕ) → Type 0
AreBlocks n [] = Unit {0}
AreBlocks n (p ∷ ps) = (p.0 < n) × (length p.1 ≡ 512) × AreBlocks n ps

-- no block is written twice
abbrev pub NoneTwice : List (ℕ × List ℕ) → Type 0
NoneTwice [] = Unit {0}
NoneTwice (p ∷ ps) = ((q : ℕ × List ℕ) → In ps q → p.0 ≢ q.0) × NoneTwice ps

-- the image holds each of these blocks
abbrev pub HoldsBlocks : List ℕ → List (ℕ × List ℕ) → Type 0
HoldsBlocks image [] = Unit {0}
HoldsBlocks image (p ∷ ps) = (block image p.0 ≡ p.1) × HoldsBlocks image ps

-- the numbers of blocks that are written
abbrev pub numbers_of : List (ℕ × List ℕ) → List ℕ
numbers_of [] = []
numbers_of (p ∷ ps) = p.0 ∷ numbers_of ps
