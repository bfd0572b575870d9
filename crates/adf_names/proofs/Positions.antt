-- The first element that passes a test, and a list cut there.
use Rattle.std.proofs.Common.{◌≡◌, List, [], ◌∷◌, false, Bool, arith, sym, ◌∙◌, ap, Some, None, take, drop, ◌+◌, ◌-◌, nat_lt, ℕ, length, ◌<◌, position}
use Rattle.std.specs.List.{All, position_or_len, slice_split}
use Rattle.std.proofs.{lemmas.Bool.cases_Bool, lemmas.Bool.ltb-false, lemmas.Grind.common_steps}
use Rattle.std.proofs.lemmas.List.{take_rest, Quantifiers.position-Some, Splits.slice_split_first, Splits.slice_split_none}
use Rattle.std.proofs.lemmas.List.Sums.{position_or_len_is, fails_before_first}

position_is : {X : Type 0} → (p : X → Bool) (xs : List X) (i : ℕ) (d : X) → Some i ≡ position p xs → position_or_len p xs ≡ i
position_is p xs i d h = grind (arith, common_steps, position-Some, position_or_len_is)

-- none passes where none is found
pub fails_at_none : {X : Type 0} → (p : X → Bool) (xs : List X) → position p xs ≡ None → All (λ x. p x ≡ false) xs
fails_at_none p xs h k d lt = grind (arith, common_steps, cases_Bool, nat_lt, fails_before_first, ltb-false)

-- a list is cut where the first element passes
pub cut_at_position : {X : Type 0} → (p : X → Bool) (xs : List X) (i : ℕ) → Some i ≡ position p xs
    → slice_split p xs ≡ take i xs ∷ slice_split p (take (length xs - (i + 1)) (drop (i + 1) xs))
cut_at_position p [] i h = cc
cut_at_position p (x ∷ xs) i h =
    let lt : i < length (x ∷ xs) = (position-Some p (x ∷ xs) i x (sym h)).0 in
    let at : position_or_len p (x ∷ xs) ≡ i = position_is p (x ∷ xs) i x h in
    slice_split_first p (x ∷ xs) x (omega arith)
    ∙ (ap (λ k. take k (x ∷ xs) ∷ slice_split p (drop (k + 1) (x ∷ xs))) at
    ∙ ap (λ ys. take i (x ∷ xs) ∷ slice_split p ys) (sym (take_rest (x ∷ xs) (i + 1))))

-- and is one part where none does
pub uncut_at_none : {X : Type 0} → (p : X → Bool) (xs : List X) → None ≡ position p xs → slice_split p xs ≡ xs ∷ []
uncut_at_none p xs h = slice_split_none p xs (fails_at_none p xs (sym h))
