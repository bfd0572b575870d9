-- Tables of the owners of blocks.
use Rattle.std.specs.Prelude.{◌≡◌, ℕ, Bool, List, [], ◌∷◌, length, take, count_by}

-- a table of n blocks; parts own m of them, and never the two boot blocks
pub record IsTable {T : Type 0} (is_part : T → Bool) (at_boot : T) (owners : List T) (n m : ℕ) : Type 0 where
  pub boot : take 2 owners ≡ at_boot ∷ at_boot ∷ []
  pub blocks : n ≡ length owners
  pub used : m ≡ count_by is_part owners
