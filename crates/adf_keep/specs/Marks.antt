-- The blocks that are claimed, as marks.
-- Letters: n the number of blocks; bs blocks; a, b blocks.
use Rattle.std.specs.Prelude.{◌≡◌, ◌≢◌, ◌<◌, ◌≤◌, ◌==◌, ◌||◌, ℕ, Bool, false, true, List, [], ◌∷◌, length, slice_index_or}
use Rattle.std.specs.List.{AllPairs}

-- whether a list has a block
abbrev pub has_block : List ℕ → ℕ → Bool
has_block [] b = false
has_block (x ∷ xs) b = (x == b) || has_block xs b

-- no block is twice in a list
abbrev pub IsOnce : List ℕ → Type 0
IsOnce bs = AllPairs (λ a b. a ≢ b) bs

-- of n blocks those that are marked are these, none of them twice, and none a boot block
pub record AreClaimed (n : ℕ) (marks : List Bool) (bs : List ℕ) : Type 0 where
  pub size : length marks ≡ n
  pub marked : (b : ℕ) → slice_index_or marks b false ≡ has_block bs b
  pub once : IsOnce bs
  pub inside : (b : ℕ) → has_block bs b ≡ true → (2 ≤ b) × (b < n)
