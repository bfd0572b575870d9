-- What it is to replace a file.
use Rattle.std.specs.Prelude.{◌≡◌, ◌≢◌, ℕ, List, Option, IfSome}

-- the file of a name has these bytes, if they are known, and each other file those that it had
pub record IsReplaced (old new : List ℕ → Option (List ℕ)) (name bytes : List ℕ) : Type 0 where
  pub filled : IfSome (new name) (λ held. held ≡ bytes)
  pub others : (other : List ℕ) → other ≢ name → new other ≡ old other
