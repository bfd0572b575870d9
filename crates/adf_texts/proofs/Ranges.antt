-- Lists joined over the numbers from one on.
use Rattle.std.proofs.Common.{◌≡◌, ◌≤◌, ◌+◌, ℕ, zero, suc, List, ◌++◌, refl, ap, append_assoc, append-nil, arith}
use Rattle.std.specs.List.{flat_map, range_with_len}
use Rattle.std.proofs.{lemmas.Grind.flat_map-append, lemmas.List.Folds.flat_map-map, lemmas.List.FromFn.map-range_with_len_more}

-- one number more
pub flat_map_next : (f : ℕ → List ℕ) (a n next : ℕ) → a + n ≡ next → flat_map f (range_with_len a (n + 1)) ≡ flat_map f (range_with_len a n) ++ f next
flat_map_next f a n next e =
    let same : ℕ → ℕ = λ x. x in
    let more = ap (flat_map f) (map-range_with_len_more same a n next e) in
    simp (flat_map-map, flat_map-append, append-nil) at more

-- what is joined over fewer numbers stands in front
pub flat_map_front : (f : ℕ → List ℕ) (a k n : ℕ) → k ≤ n
    → (rest : List ℕ) × (flat_map f (range_with_len a n) ≡ flat_map f (range_with_len a k) ++ rest)
flat_map_front f a zero n h = (flat_map f (range_with_len a n), refl)
flat_map_front f a (suc k) zero h = absurd (omega arith)
flat_map_front f a (suc k) (suc n) h = let more = flat_map_front f (a + 1) k n (omega arith) in (more.0, rw (more.1, append_assoc))
