-- An addition keeps the invariant of trees: numbers, order, directories and names.
-- Letters: l the letters whose case is ignored; es entries, e the new one; n, p, q, m numbers of entries.
use Rattle.std.proofs.Common.{◌≡◌, ℕ, ◌+◌, ◌-◌, ◌*◌, ◌<◌, ◌≤◌, inl, inr, List, length, get_or, take, map, arith, nat_lt, sym, ◌∙◌, ap, not}
use Rattle.std.specs.List.{AllPairs, insert, drop-map, Sorted.IsNonDecreasingBy}
use Rattle.std.proofs.lemmas.Bool.{cases_lt, cases_order, ltb-true, ltb-false, Decides.nat_tests}
use Rattle.std.proofs.lemmas.List.{get_or-map, length-map, get_or-take, length-take-le, take-map, Sorted.IsNonDecreasingBy-insert, Folds.map_fixed}
use Rattle.std.proofs.lemmas.List.Edits.{length-insert, get_or-insert_below, get_or-insert_at, get_or-insert_above}
use Rattle.std.proofs.{lemmas.List.Sums.fails_before_first, lemmas.List.Sums.passes_at_first, lemmas.List.Sums.prefix_len-le-length, lemmas.Grind.common_steps}
use Rattle.adf_base.specs.declared.hash.Letters.{Letters, TheVariants.Ascii, TheVariants.International}
use Rattle.adf_tree.specs.declared.entry.Entry.{Entry}
use Rattle.adf_base.specs.Hash.{slot_by}
use Rattle.adf_tree.specs.Tree.{place_by, rank_by, moved_entry, moved, added_by, IsTreeBy, IsDir, AreApartBy, MayAddBy}

-- numbers

pub moved_below : (n p : ℕ) → p < n → moved n p ≡ p
moved_below n p h = grind (arith, nat_tests)

pub moved_above : (n p : ℕ) → n ≤ p → moved n p ≡ p + 1
moved_above n p h = grind (arith, nat_tests)

pub moved_same : (n p q : ℕ) → moved n p ≡ moved n q → p ≡ q
moved_same n p q h = grind (arith, nat_tests)

pub moved_up : (n p : ℕ) → p ≤ moved n p
moved_up n p = grind (arith, nat_tests)

pub moved_near : (n p : ℕ) → moved n p ≤ p + 1
moved_near n p = grind (arith, nat_tests)

-- the order of numbers stays
moved_less : (n p q : ℕ) → p < q → moved n p < moved n q
moved_less n p q h = grind (arith, nat_tests)

pub slot_small_by : (l : Letters) (name : List ℕ) → slot_by l name < 72
slot_small_by Ascii name = omega arith
slot_small_by International name = omega arith

rank_rises : (n p q s t : ℕ) → s < 72 → t < 72 → 72 * p + s ≤ 72 * q + t → 72 * moved n p + s ≤ 72 * moved n q + t
rank_rises n p q s t hs ht h = grind (arith, nat_tests)

rank_grows : (l : Letters) (n : ℕ) (e : Entry) → rank_by l e ≤ rank_by l (moved_entry n e)
rank_grows l n e = omega (arith, moved_up n e.parent)

renumbered_rises : (l : Letters) (n : ℕ) (e f : Entry) → rank_by l e ≤ rank_by l f → rank_by l (moved_entry n e) ≤ rank_by l (moved_entry n f)
renumbered_rises l n e f h = rank_rises n e.parent f.parent (slot_by l e.name) (slot_by l f.name) (slot_small_by l e.name) (slot_small_by l f.name) h

-- where a new entry is put

pub place_le_by : (l : Letters) (es : List Entry) (r : ℕ) → place_by l es r ≤ length es
place_le_by l es r = prefix_len-le-length (λ e. not (nat_lt r (rank_by l e))) es

-- the entries before the place have a lesser or the same pair
pub before : (l : Letters) (es : List Entry) (r k : ℕ) (d : Entry) → k < place_by l es r → rank_by l (get_or es k d) ≤ r
before l es r k d lt = ltb-false r (rank_by l (get_or es k d)) (fails_before_first (λ e. nat_lt r (rank_by l e)) es k d lt)

-- the entries from the place on have a greater one
pub after : (l : Letters) (es : List Entry) (r k : ℕ) (d : Entry) → IsNonDecreasingBy (rank_by l) es → place_by l es r ≤ k → k < length es
    → r < rank_by l (get_or es k d)
after l es r k d up le short =
    let first = ltb-true r (rank_by l (get_or es (place_by l es r) d)) (passes_at_first (λ e. nat_lt r (rank_by l e)) es d (omega arith)) in
    omega (arith, first, up (place_by l es r) k d le short)

-- a directory stands before the place of its children
pub dir_before : (l : Letters) (es : List Entry) (e : Entry) → IsTreeBy l es → IsDir es e.parent → e.parent ≤ place_by l es (rank_by l e)
dir_before l es e t dir =
    elim (cases_lt (place_by l es (rank_by l e)) e.parent) [
      | inr le ↦ le
      | inl lt ↦
          let p = (dir (omega arith)).0 in
          let late = after l es (rank_by l e) (e.parent - 1) e t.order (omega arith) (omega arith) in
          absurd (omega (arith, late, t.parents (e.parent - 1) e (omega arith), slot_small_by l (get_or es (e.parent - 1) e).name))
    ]

-- the entries before the place keep their parents
pub fixed : (l : Letters) (es : List Entry) (i k : ℕ) (d : Entry) → IsTreeBy l es → i ≤ length es → k < i
    → moved_entry (i + 1) (get_or es k d) ≡ get_or es k d
fixed l es i k d t le lt = rw (moved_below (i + 1) (get_or es k d).parent (omega (arith, t.parents k d (omega arith))))

fixed_front : (l : Letters) (es : List Entry) (i : ℕ) → IsTreeBy l es → i ≤ length es → map (moved_entry (i + 1)) (take i es) ≡ take i es
fixed_front l es i t le = grind (arith, common_steps, length-take-le, map_fixed, get_or-take, fixed)

-- so all may be moved_entry
pub added_is : (l : Letters) (es : List Entry) (e : Entry) → IsTreeBy l es
    → added_by l es e ≡ insert (map (moved_entry (place_by l es (rank_by l e) + 1)) es) (place_by l es (rank_by l e)) e
added_is l es e t =
    let i : ℕ = place_by l es (rank_by l e) in
    rw (take-map (moved_entry (i + 1)) i es, drop-map (moved_entry (i + 1)) i es, fixed_front l es i t (place_le_by l es (rank_by l e)))

-- the new list

pub length_added : {l : Letters} (es : List Entry) (e : Entry) → IsTreeBy l es → length (added_by l es e) ≡ length es + 1
length_added {l} es e t = grind (arith, common_steps, length-map, added_is, length-insert, place_le_by)

pub at_place : {l : Letters} (es : List Entry) (e d : Entry) → IsTreeBy l es → get_or (added_by l es e) (place_by l es (rank_by l e)) d ≡ e
at_place {l} es e d t = grind (arith, common_steps, added_is, get_or-insert_at, place_le_by, length-map)

-- the old entries stand under their new numbers
pub new_get : {l : Letters} (es : List Entry) (e : Entry) (m : ℕ) (d : Entry) → IsTreeBy l es → 0 < m → m ≤ length es
    → get_or (added_by l es e) (moved (place_by l es (rank_by l e) + 1) m - 1) d ≡ moved_entry (place_by l es (rank_by l e) + 1) (get_or es (m - 1) d)
new_get {l} es e m d t some le =
    let i : ℕ = place_by l es (rank_by l e) in
    let f : Entry → Entry = moved_entry (i + 1) in
    let short : i ≤ length (map f es) = omega (arith, place_le_by l es (rank_by l e), length-map es f) in
    elim (cases_lt (m - 1) i) [
      | inl below ↦
          let at : moved (i + 1) m - 1 ≡ m - 1 = omega (arith, moved_below (i + 1) m (omega arith)) in
          rw (at, added_is l es e t, get_or-insert_below (map f es) i e d (m - 1) below short) (get_or-map f es (m - 1) d d (omega arith))
      | inr past ↦
          let at : moved (i + 1) m - 1 ≡ m - 1 + 1 = omega (arith, moved_above (i + 1) m (omega arith)) in
          rw (at, added_is l es e t, get_or-insert_above (map f es) i e d (m - 1) past short) (get_or-map f es (m - 1) d d (omega arith))
    ]

-- what an entry of the new list is: the new one, or an old one under its new number
pub by_case : (l : Letters) (es : List Entry) (e : Entry) (d : Entry) (P : ℕ → Entry → Type 0) → IsTreeBy l es → P (place_by l es (rank_by l e)) e
    → ((m : ℕ) → 0 < m → m ≤ length es → P (moved (place_by l es (rank_by l e) + 1) m - 1)
    (moved_entry (place_by l es (rank_by l e) + 1) (get_or es (m - 1) d)))
    → (k : ℕ) → k < length (added_by l es e) → P k (get_or (added_by l es e) k d)
by_case l es e d P t new old k lt =
    let i : ℕ = place_by l es (rank_by l e) in
    let le = place_le_by l es (rank_by l e) in
    let long = length_added es e t in
    let here : (m : ℕ) → 0 < m → m ≤ length es → moved (i + 1) m - 1 ≡ k → P k (get_or (added_by l es e) k d) =
    λ m some most at. rw (← at, new_get es e m d t some most) (old m some most) in
    elim (cases_order k i) [
      | inl same ↦ rw (same, at_place es e d t) new
      | inr (inl below) ↦ here (k + 1) (omega arith) (omega arith) (omega (arith, moved_below (i + 1) (k + 1) (omega arith)))
      | inr (inr past) ↦ here k (omega arith) (omega arith) (omega (arith, moved_above (i + 1) k (omega arith)))
    ]

-- a directory stays one, under its new number
dir_kept : (l : Letters) (es : List Entry) (e : Entry) (p : ℕ) → IsTreeBy l es → IsDir es p
    → IsDir (added_by l es e) (moved (place_by l es (rank_by l e) + 1) p)
dir_kept l es e p t dir some = grind (arith, common_steps, cases_lt, moved_below, moved_near, length_added, new_get)

kept_parent : (l : Letters) (es : List Entry) (e : Entry) (k : ℕ) (d : Entry) → IsTreeBy l es → IsDir es e.parent → k < length (added_by l es e)
    → ((get_or (added_by l es e) k d).parent ≤ k) × IsDir (added_by l es e) (get_or (added_by l es e) k d).parent
kept_parent l es e k d t dir lt =
    let n : ℕ = place_by l es (rank_by l e) + 1 in
    let early = dir_before l es e t dir in
    by_case l es e d (λ j x. (x.parent ≤ j) × IsDir (added_by l es e) x.parent) t
    (early, rw (moved_below n e.parent (omega arith)) at (dir_kept l es e e.parent t dir))
    (λ m some le.
    let less = moved_less n (get_or es (m - 1) d).parent m (omega (arith, t.parents (m - 1) d (omega arith))) in
    (omega arith, dir_kept l es e (get_or es (m - 1) d).parent t (t.dirs (m - 1) d (omega arith))))
    k lt

kept_order : (l : Letters) (es : List Entry) (e : Entry) → IsTreeBy l es → IsNonDecreasingBy (rank_by l) (added_by l es e)
kept_order l es e t =
    let i : ℕ = place_by l es (rank_by l e) in
    let f : Entry → Entry = moved_entry (i + 1) in
    let le = place_le_by l es (rank_by l e) in
    let m = length-map es f in
    rw (added_is l es e t) (IsNonDecreasingBy-insert (rank_by l) (map f es) i e
    (λ a b d ab short.
    rw (get_or-map f es a d d (omega arith), get_or-map f es b d d (omega arith))
    (renumbered_rises l (i + 1) (get_or es a d) (get_or es b d) (t.order a b d ab (omega arith))))
    (omega arith)
    (λ k d lt. rw (get_or-map f es k d d (omega arith)) (omega (arith, ap (rank_by l) (fixed l es i k d t le lt), before l es (rank_by l e) k d lt)))
    (λ k d past short.
    rw (get_or-map f es k d d (omega arith)) (omega (
      arith,
      after l es (rank_by l e) k d t.order past (omega arith),
      rank_grows l (i + 1) (get_or es k d),
    ))))

earlier : (n m k : ℕ) → 0 < m → moved n m - 1 < moved n k - 1 → m - 1 < k - 1
earlier n m k some h = grind (arith, nat_tests)

kept_names : (l : Letters) (es : List Entry) (e : Entry) → IsTreeBy l es → MayAddBy l es e → AllPairs (AreApartBy l) (added_by l es e)
kept_names l es e t may a b d lt short =
    let n : ℕ = place_by l es (rank_by l e) + 1 in
    let stays = moved_below n e.parent (omega (arith, dir_before l es e t may.parent)) in
    let fresh : (m : ℕ) → 0 < m → m ≤ length es → AreApartBy l (moved_entry n (get_or es (m - 1) d)) e =
    λ m some le p u. may.fresh (m - 1) d (omega arith) (moved_same n (get_or es (m - 1) d).parent e.parent (p ∙ sym stays)) u in
    by_case l es e d (λ j x. j < b → AreApartBy l x (get_or (added_by l es e) b d)) t
    (λ less. by_case l es e d (λ k y. place_by l es (rank_by l e) < k → AreApartBy l e y) t (λ no. absurd (omega arith))
    (λ m some le _ p u. fresh m some le (sym p) (sym u)) b short less)
    (λ m some le less. by_case l es e d (λ k y. moved n m - 1 < k → AreApartBy l (moved_entry n (get_or es (m - 1) d)) y) t (λ _. fresh m some le)
    (λ k some_k le_k order p u.
    t.names (m - 1) (k - 1) d (earlier n m k some order) (omega arith)
    (moved_same n (get_or es (m - 1) d).parent (get_or es (k - 1) d).parent p) u)
    b short less)
    a (omega arith) lt

-- a tree with an entry more is a tree
pub added_tree : {l : Letters} (es : List Entry) (e : Entry) → IsTreeBy l es → MayAddBy l es e → IsTreeBy l (added_by l es e)
added_tree {l} es e t may = record {
  parents = λ k d lt. (kept_parent l es e k d t may.parent lt).0;
  dirs = λ k d lt. (kept_parent l es e k d t may.parent lt).1;
  order = kept_order l es e t;
  names = kept_names l es e t may;
}
