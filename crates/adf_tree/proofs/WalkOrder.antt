-- Where an entry is inserted in walk order, and the result of inserting and renumbering.
-- Letters: l the letters whose case is ignored.
use Rattle.std.proofs.Common.{◌≡◌, ℕ, ◌≤◌, List, [], ◌∷◌, length, true, false, arith, nat_lt, nat_le, ◌+◌, ◌++◌, take, drop, map}
use Rattle.std.proofs.{lemmas.Bool.le-ltb, lemmas.Bool.lt-ltb, lemmas.Bool.leb-true, lemmas.Bool.leb-false, lemmas.Grind.common_steps}
use Rattle.adf_base.specs.declared.hash.Letters.{Letters}
use Rattle.adf_tree.specs.{declared.entry.Entry.Entry, Tree.place_by, Tree.rank_by}
use Rattle.std.specs.List.{insert, Sorted.IsPartitionPoint}
use Rattle.std.proofs.lemmas.List.{append_assoc, take_at, drop_at, length-take-le, drop_all, append-nil, take_all, length-append, Sums.position_or_len_is}

pub place_is_by : (l : Letters) (es : List Entry) (r i : ℕ) → i ≤ length es
    → IsPartitionPoint (λ e. nat_le (rank_by l e) r ≡ true) (λ e. nat_le (rank_by l e) r ≡ false) es i
    → i ≡ place_by l es r
place_is_by l [] r i le h = omega arith
place_is_by l (e ∷ es) r i le h =
    grind (arith, common_steps, le-ltb, leb-true, lt-ltb, leb-false, position_or_len_is (λ e. nat_lt r (rank_by l e)) (e ∷ es) i e le, nat_lt r (rank_by l e))

-- the entries past the new one are changed, and the others stay
pub inserted_mapped : {X : Type 0} (f : X → X) (xs : List X) (i : ℕ) (y : X) → i ≤ length xs
    → take (i + 1) (insert xs i y) ++ map f (drop (i + 1) (insert xs i y)) ≡ take i xs ++ y ∷ map f (drop i xs)
inserted_mapped f xs i y le =
    let m : length (take i xs ++ y ∷ []) ≡ i + 1 = omega (arith, length-append (take i xs) (y ∷ []), length-take-le i xs le) in
    rw (← append_assoc (take i xs) (y ∷ []) (drop i xs), take_at (take i xs ++ y ∷ []) (drop i xs) (i + 1) m)
    (rw (drop_at (take i xs ++ y ∷ []) (drop i xs) (i + 1) m) (append_assoc (take i xs) (y ∷ []) (map f (drop i xs))))

-- a list that was written whole
pub written_whole : {X : Type 0} (n : ℕ) (xs ys : List X) → length ys ≡ n → length xs ≡ n → take n (ys ++ drop (length ys) xs) ≡ ys
written_whole n xs ys h k = grind (arith, common_steps, drop_all, append-nil, take_all)
