-- Lists with the same items.
use Rattle.std.specs.List.{slice_get}
use Rattle.std.proofs.Common.{◌≡◌, ◌<◌, ℕ, suc, List, [], ◌∷◌, ap₂, arith, length}
use Rattle.std.proofs.lemmas.Option.{same_Some}

-- two lists of one length are the same if they have the same item at each index
pub same_items : {A : Type 0} (xs ys : List A) → length ys ≡ length xs → ((k : ℕ) → k < length xs → slice_get ys k ≡ slice_get xs k) → ys ≡ xs
same_items [] [] size same = cc
same_items [] (y ∷ ys) size same = absurd (omega (arith, size))
same_items (x ∷ xs) [] size same = absurd (omega (arith, size))
same_items (x ∷ xs) (y ∷ ys) size same =
    ap₂ (λ z zs. z ∷ zs) (same_Some y x (same 0 (omega arith)))
    (same_items xs ys (omega (arith, size)) (λ k lt. same (suc k) (omega (arith, lt))))
