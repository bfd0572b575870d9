-- A list that is read one by one.
use Rattle.std.proofs.Common.{◌≡◌, ◌<◌, ◌+◌, ℕ, List, ◌∷◌, length, get_or, drop, add-one}
use Rattle.std.proofs.{Math.Seq.drop-cons}

-- what is left begins with the next element
pub front_at : {A : Type 0} (xs : List A) (i : ℕ) (d : A) → i < length xs → drop i xs ≡ get_or xs i d ∷ drop (i + 1) xs
front_at xs i d lt = rw (add-one, drop-cons xs i d)
