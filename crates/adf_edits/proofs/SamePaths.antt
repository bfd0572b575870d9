-- Paths that are equal ignoring case. a and b are paths, k is the place of a name.
use Rattle.std.proofs.Common.{◌≡◌, ◌≢◌, ◌<◌, ◌∷◌, ℕ, List, [], length, get_or, true, false, zero, suc, arith, refl}
use Rattle.std.specs.Str.{bytes_eq}
use Rattle.std.proofs.lemmas.Grind.{common_steps}
use Rattle.adf_names.specs.Texts.{uppers}
use Rattle.adf_tree.specs.Additions.{same_path}

pub same_all : (a b : List (List ℕ)) → length a ≡ length b
    → ((k : ℕ) → k < length a → bytes_eq (uppers (get_or a k [])) (uppers (get_or b k [])) ≡ true)
    → same_path a b ≡ true
same_all [] [] e h = grind (arith, common_steps)
same_all [] (y ∷ ys) e h = absurd (omega arith)
same_all (x ∷ xs) [] e h = absurd (omega arith)
same_all (x ∷ xs) (y ∷ ys) e h =
    let first : bytes_eq (uppers x) (uppers y) ≡ true = h 0 (omega arith) in
    let rest : same_path xs ys ≡ true = same_all xs ys (omega arith) (λ k lt. h (suc k) (omega arith)) in
    rw (first, rest) (grind (arith, common_steps))

pub same_short : (a b : List (List ℕ)) → length a ≢ length b → same_path a b ≡ false
same_short [] [] ne = absurd (ne refl)
same_short [] (y ∷ ys) ne = grind (arith, common_steps)
same_short (x ∷ xs) [] ne = grind (arith, common_steps)
same_short (x ∷ xs) (y ∷ ys) ne = let rest : same_path xs ys ≡ false = same_short xs ys (λ e. ne (omega (arith, e))) in grind (arith, common_steps)

pub same_not : (a b : List (List ℕ)) (k : ℕ) → k < length a → k < length b → bytes_eq (uppers (get_or a k [])) (uppers (get_or b k [])) ≡ false
    → same_path a b ≡ false
same_not [] b k la lb h = absurd (omega arith)
same_not (x ∷ xs) [] k la lb h = absurd (omega arith)
same_not (x ∷ xs) (y ∷ ys) zero la lb h = grind (arith, common_steps)
same_not (x ∷ xs) (y ∷ ys) (suc k) la lb h =
    let rest : same_path xs ys ≡ false = same_not xs ys k (omega arith) (omega arith) h in grind (arith, common_steps)
