-- Places in the lists of all extension blocks and of all data blocks, and the owners that are kept by them.
use Rattle.std.proofs.Common.{◌≡◌, ℕ, zero, suc, Bool, List, [], ◌∷◌, ◌+◌, ◌-◌, ◌<◌, ◌≤◌, length, get_or, true, false, leb, leb-true, nat_le, ap, arith}
use Rattle.std.specs.{Prelude.count_by, List.Sorted.IsPartitionPoint}
use Rattle.std.proofs.{lemmas.Bool.le-leb, lemmas.Bool.lt-leb, lemmas.List.get_or_default, lemmas.Grind.common_steps}
use Rattle.adf_volume.specs.{declared.node_start.NodeStart.NodeStart, Places.AreStarts, Places.IsLastStart, Places.last_start}

-- the last of those that begin at a place or before it, by their number
pub last_found : (first : NodeStart → ℕ) (starts : List NodeStart) (place r : ℕ) → AreStarts first starts → r ≤ length starts
    → IsPartitionPoint (λ x. leb (first x) place ≡ true) (λ x. leb (first x) place ≡ false) starts r
    → (1 ≤ r) × IsLastStart first starts place (r - 1)
last_found first starts place r are bound point = grind (arith, common_steps, leb-true, leb, le-leb)

-- so many are there of which a test holds, where it holds below an index and not from there on
counted : {X : Type 0} (p : X → Bool) (xs : List X) (i : ℕ) → i ≤ length xs → ((k : ℕ) (d : X) → k < i → p (get_or xs k d) ≡ true)
    → ((k : ℕ) (d : X) → i ≤ k → k < length xs → p (get_or xs k d) ≡ false) → count_by p xs ≡ i
counted p [] i le holds fails = omega arith
counted p (x ∷ xs) zero le holds fails =
    let first : p x ≡ false = fails 0 x (omega arith) (omega arith) in
    let rest : count_by p xs ≡ 0 =
    counted p xs zero (omega arith) (λ k d lt. absurd (omega (arith, lt))) (λ k d lo lt. fails (suc k) d (omega arith) (omega (arith, lt))) in
    grind (arith, common_steps)
counted p (x ∷ xs) (suc i) le holds fails =
    let first : p x ≡ true = holds 0 x (omega arith) in
    let rest : count_by p xs ≡ i =
    counted p xs i (omega (arith, le)) (λ k d lt. holds (suc k) d (omega (arith, lt)))
    (λ k d lo lt. fails (suc k) d (omega (arith, lo)) (omega (arith, lt))) in
    grind (arith, common_steps)

-- it is their number less 1
pub last_is : (first : NodeStart → ℕ) (starts : List NodeStart) (place n : ℕ) → AreStarts first starts → IsLastStart first starts place n
    → n ≡ last_start first starts place
last_is first starts place n are last =
    let none : NodeStart = record { exts = 0; datas = 0 } in
    let many =
    counted (λ s. nat_le (first s) place) starts (n + 1) (omega (arith, last.within))
    (λ k d lt. le-leb (first (get_or starts k d)) place
    (let r = are.rising k n none (omega (arith, lt)) last.within in
    let e = ap first (get_or_default starts k d none (omega (arith, lt, last.within))) in omega (arith, r, e, last.begins)))
    (λ k d lo lt. lt-leb (first (get_or starts k d)) place
    (let e = ap first (get_or_default starts k d none lt) in omega (arith, e, last.last k (omega (arith, lo)) lt))) in
    omega (arith, many)
