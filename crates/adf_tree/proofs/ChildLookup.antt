-- Look-up by parent and name, and how an addition changes it.
-- Letters: l the letters whose case is ignored.
use Rattle.std.proofs.Common.{◌≡◌, ◌≢◌, ℕ, ◌+◌, ◌*◌, ◌%◌, ◌<◌, ◌≤◌, List, [], ◌∷◌, length, get_or, true, false, Bool, Some, None, arith, nat_lt, sym, refl, ◌∙◌}
use Rattle.std.proofs.Common.{ap, ◌-◌, Option, ◌&&◌, fold, option_map, position}
use Rattle.std.specs.{List.All, List.Sorted.IsNonDecreasingBy, List.Sorted.IsPartitionPoint, Str.bytes_eq}
use Rattle.std.proofs.lemmas.Bool.{cases_lt, and_parts, eqb-true, ltb-true, and_from, eq-eqb, false_from_ne_true, lt-ltb, le-ltb, Decides.nat_tests}
use Rattle.std.proofs.lemmas.List.{length-map, Sums.position_or_len_is, Quantifiers.position-Some}
use Rattle.std.proofs.{lemmas.Slice.Eq.bytes_eq-Decides, lemmas.Grind.common_steps}
use Rattle.adf_base.specs.declared.hash.Letters.{Letters, TheVariants.Ascii, TheVariants.International}
use Rattle.adf_tree.specs.{declared.entry.Entry.Entry, Tree.MayAddBy}
use Rattle.adf_base.specs.Hash.{slot_by, upper_by}
use Rattle.adf_names.specs.Texts.{uppers, uppers_by}
use Rattle.adf_tree.specs.Tree.{rank_by, rank_of, is_child, is_child_by, child, child_by, place_by, moved_entry, moved, added_by, IsDir, IsTree, IsTreeBy}
use Rattle.adf_tree.proofs.TreeInvariant.{after, moved_same, moved_below, moved_above, moved_up, moved_near, added_tree, place_le_by, dir_before, at_place}
use Rattle.adf_tree.proofs.{TreeInvariant.by_case, TreeInvariant.length_added, TreeInvariant.new_get, ChainOrder.moved_test}
use Rattle.adf_names.proofs.Positions.{fails_at_none}

pub upper_twice : (l : Letters) (c : ℕ) → upper_by l (upper_by l c) ≡ upper_by l c
upper_twice Ascii c = grind (arith, nat_tests)
upper_twice International c = grind (arith, nat_tests)

-- the hash after one more byte
abbrev hash_by : Letters → ℕ → ℕ → ℕ
hash_by l h c = (h * 13 + upper_by l c) % 2048

hash_uppers : (l : Letters) (h : ℕ) (name : List ℕ) → fold (hash_by l) h (uppers_by l name) ≡ fold (hash_by l) h name
hash_uppers l h [] = refl
hash_uppers l h (c ∷ cs) = ap (λ u. fold (hash_by l) ((h * 13 + u) % 2048) (uppers_by l cs)) (upper_twice l c) ∙ hash_uppers l (hash_by l h c) cs

-- the case of a name does not change its slot
pub slot_uppers : (l : Letters) (name : List ℕ) → slot_by l (uppers_by l name) ≡ slot_by l name
slot_uppers Ascii name = rw (length-map name (upper_by Ascii), hash_uppers Ascii (length name) name)
slot_uppers International name = rw (length-map name (upper_by International), hash_uppers International (length name) name)

pub same_slot_by : (l : Letters) (a b : List ℕ) → uppers_by l a ≡ uppers_by l b → slot_by l a ≡ slot_by l b
same_slot_by l a b h = sym (slot_uppers l a) ∙ (ap (slot_by l) h ∙ slot_uppers l b)

pub child_says_by : (l : Letters) (p : ℕ) (name : List ℕ) (x : Entry) → is_child_by l p name x ≡ true
    → (x.parent ≡ p) × (uppers_by l x.name ≡ uppers_by l name)
child_says_by l p name x h = grind (arith, common_steps, and_parts, eqb-true, bytes_eq-Decides)

pub is_child_from_by : (l : Letters) (p : ℕ) (name : List ℕ) (x : Entry) → x.parent ≡ p → uppers_by l x.name ≡ uppers_by l name
    → is_child_by l p name x ≡ true
is_child_from_by l p name x a b = grind (arith, common_steps, and_from, eq-eqb, bytes_eq-Decides)

-- a child stands at its parent and its slot
pub child_rank : (l : Letters) (e : Entry) (parent : ℕ) (name : List ℕ) → is_child_by l parent name e ≡ true
    → rank_by l e ≡ rank_of parent (slot_by l name)
child_rank l e parent name h = let both = child_says_by l parent name e h in rw (both.0, same_slot_by l e.name name both.1)

pub no_child : (l : Letters) (e : Entry) (parent : ℕ) (name : List ℕ) → rank_by l e ≢ rank_of parent (slot_by l name)
    → is_child_by l parent name e ≡ false
no_child l e parent name ne = false_from_ne_true (is_child_by l parent name e) (λ t. ne (child_rank l e parent name t))

pub position_yes : {X : Type 0} (p : X → Bool) (xs : List X) (i : ℕ) (d : X) → i < length xs → p (get_or xs i d) ≡ true
    → ((k : ℕ) → k < i → p (get_or xs k d) ≡ false) → position p xs ≡ Some i
position_yes p xs i d lt holds others = rw (position_or_len_is p xs i d (omega arith) others (λ _. holds), lt-ltb i (length xs) lt)

pub position_no : {X : Type 0} (p : X → Bool) (xs : List X) → All (λ x. p x ≡ false) xs → position p xs ≡ None
position_no p [] others = refl
position_no p (x ∷ xs) others =
    let at = position_or_len_is p (x ∷ xs) (length (x ∷ xs)) x (omega arith) (λ k lt. others k x lt) (λ lt. absurd (omega arith)) in
    rw (at, le-ltb (length (x ∷ xs)) (length (x ∷ xs)) (omega arith))

none_before : (o : Option ℕ) → option_map (λ i. i + 1) o ≡ None → o ≡ None
none_before None h = refl
none_before (Some i) h = cc

one_before : (o : Option ℕ) (m : ℕ) → option_map (λ i. i + 1) o ≡ Some m → (0 < m) × (o ≡ Some (m - 1))
one_before None m h = cc
one_before (Some i) m h = let same : i + 1 ≡ m = cc in (omega arith, ap Some (omega arith))

-- the child of a name
module _ (l : Letters) (es : List Entry) (p : ℕ) (name : List ℕ) where
  -- what a search along a chain finds
  pub child_found_by : (i : ℕ) (e : Entry) → i < length es → e ≡ get_or es i e → is_child_by l p name e ≡ true
      → ((k : ℕ) (d : Entry) → k < i → is_child_by l p name (get_or es k d) ≡ false) → Some (i + 1) ≡ child_by l es p name
  child_found_by i e lt at holds others = grind (arith, common_steps, position_yes)

  pub no_children_by : ((k : ℕ) (d : Entry) → k < length es → is_child_by l p name (get_or es k d) ≡ false) → child_by l es p name ≡ None
  no_children_by h = ap (option_map (λ i. i + 1)) (position_no (is_child_by l p name) es h)

  -- nothing stands before the chain, and nothing past it
  pub child_not_before_by : (s from : ℕ) → s ≡ slot_by l name
      → IsPartitionPoint (λ e. nat_lt (rank_by l e) (rank_of p s) ≡ true) (λ e. nat_lt (rank_by l e) (rank_of p s) ≡ false) es from
      → (k : ℕ) (d : Entry) → k < from → is_child_by l p name (get_or es k d) ≡ false
  child_not_before_by s from same point k d lt = grind (arith, common_steps, no_child, ltb-true)

  pub child_not_past_by : (s to i : ℕ) → s ≡ slot_by l name → IsNonDecreasingBy (rank_by l) es → to ≡ place_by l es (rank_of p s) → to ≤ i
      → ((k : ℕ) (d : Entry) → k < i → is_child_by l p name (get_or es k d) ≡ false)
      → (k : ℕ) (d : Entry) → k < length es → is_child_by l p name (get_or es k d) ≡ false
  child_not_past_by s to i same up at past others k d lt = grind (arith, common_steps, cases_lt, no_child, after)

  -- where no child is found there is none
  pub none_is : (k : ℕ) (d : Entry) → child_by l es p name ≡ None → k < length es → is_child_by l p name (get_or es k d) ≡ false
  none_is k d h lt = fails_at_none (is_child_by l p name) es (none_before (position (is_child_by l p name) es) h) k d lt

  -- the child is the only one
  pub child_is_by : (k : ℕ) (d : Entry) → IsTreeBy l es → k < length es → is_child_by l p name (get_or es k d) ≡ true
      → child_by l es p name ≡ Some (k + 1)
  child_is_by k d t lt h = grind (arith, common_steps, child_says_by, position_yes, false_from_ne_true)

  -- and what is found is one
  pub found_is_by : (m : ℕ) (d : Entry) → child_by l es p name ≡ Some m
      → (0 < m) × (m ≤ length es) × (is_child_by l p name (get_or es (m - 1) d) ≡ true)
  found_is_by m d h = grind (arith, common_steps, one_before, position-Some)

is_child_moved : (l : Letters) (n p : ℕ) (name : List ℕ) (x : Entry) → is_child_by l (moved n p) name (moved_entry n x) ≡ is_child_by l p name x
is_child_moved l n p name x = ap (λ b. b && bytes_eq (uppers_by l x.name) (uppers_by l name)) (moved_test n x.parent p)

-- nothing is a child of the new entry
pub moved_past : (n p : ℕ) → moved n p ≢ n
moved_past n p h = grind (arith, common_steps, cases_lt, moved_below, moved_above)

-- nothing stands in the new entry
pub no_parent : (l : Letters) (es : List Entry) (e : Entry) → IsTreeBy l es → IsDir es e.parent
    → All (λ x. x.parent ≢ place_by l es (rank_by l e) + 1) (added_by l es e)
no_parent l es e t dir k d lt =
    by_case l es e d (λ _ x. x.parent ≢ place_by l es (rank_by l e) + 1) t (λ h. absurd (omega (arith, h, dir_before l es e t dir)))
    (λ m some le. moved_past (place_by l es (rank_by l e) + 1) (get_or es (m - 1) d).parent) k lt

-- the new entry has no children
pub child_of_new : {l : Letters} (es : List Entry) (e : Entry) (name : List ℕ) → IsTreeBy l es → IsDir es e.parent
    → let n : ℕ = place_by l es (rank_by l e) + 1 in
    child_by l (added_by l es e) n name ≡ None
child_of_new {l} es e name t dir = grind (arith, no_children_by, false_from_ne_true, no_parent, child_says_by)

pub parent_stays : {l : Letters} (es : List Entry) (e : Entry) → IsTreeBy l es → IsDir es e.parent
    → moved (place_by l es (rank_by l e) + 1) e.parent ≡ e.parent
parent_stays {l} es e t dir = grind (arith, common_steps, dir_before, moved_below)

-- the new entry is found under its name
pub child_new : {l : Letters} (es : List Entry) (e : Entry) (name : List ℕ) → IsTreeBy l es → MayAddBy l es e → uppers_by l e.name ≡ uppers_by l name
    → child_by l (added_by l es e) e.parent name ≡ Some (place_by l es (rank_by l e) + 1)
child_new {l} es e name t may same =
    child_is_by l (added_by l es e) e.parent name (place_by l es (rank_by l e)) e (added_tree es e t may)
    (omega (arith, place_le_by l es (rank_by l e), length_added es e t))
    (rw (at_place es e e t) (is_child_from_by l e.parent name e refl same))

-- all else is found as it was
pub child_other : {l : Letters} (es : List Entry) (e : Entry) (p : ℕ) (name : List ℕ) → IsTreeBy l es → MayAddBy l es e
    → (p ≡ e.parent → uppers_by l e.name ≢ uppers_by l name)
    → let n : ℕ = place_by l es (rank_by l e) + 1 in
    child_by l (added_by l es e) (moved n p) name ≡ option_map (moved n) (child_by l es p name)
child_other {l} es e p name t may other =
    let n : ℕ = place_by l es (rank_by l e) + 1 in
    (elim (child_by l es p name) as (λ o. child_by l es p name ≡ o → child_by l (added_by l es e) (moved n p) name ≡ option_map (moved n) o) [
      | None ↦ λ h. no_children_by l (added_by l es e) (moved n p) name
          (λ k d lt. by_case l es e d (λ _ x. is_child_by l (moved n p) name x ≡ false) t
          (false_from_ne_true (is_child_by l (moved n p) name e) (λ g. let says = child_says_by l (moved n p) name e g in
          other (moved_same n p e.parent (sym says.0 ∙ sym (parent_stays es e t may.parent))) says.1))
          (λ m some le. is_child_moved l n p name (get_or es (m - 1) d) ∙ none_is l es p name (m - 1) d h (omega arith)) k lt)
      | Some m ↦ λ h.
          let found = found_is_by l es p name m e h in
          let number : moved n m - 1 + 1 ≡ moved n m = omega (arith, found.0, moved_up n m) in
          child_is_by l (added_by l es e) (moved n p) name (moved n m - 1) e (added_tree es e t may)
          (omega (arith, found.0, found.1, moved_up n m, moved_near n m, length_added es e t))
          (rw (new_get es e m e t found.0 found.1) (is_child_moved l n p name (get_or es (m - 1) e) ∙ found.2))
          ∙ ap Some number
    ]) refl

-- by ASCII letters

pub child_says : (p : ℕ) (name : List ℕ) (x : Entry) → is_child p name x ≡ true → (x.parent ≡ p) × (uppers x.name ≡ uppers name)
child_says = child_says_by Ascii

pub is_child_from : (p : ℕ) (name : List ℕ) (x : Entry) → x.parent ≡ p → uppers x.name ≡ uppers name → is_child p name x ≡ true
is_child_from = is_child_from_by Ascii

pub child_is : (es : List Entry) (p : ℕ) (name : List ℕ) (k : ℕ) (d : Entry) → IsTree es → k < length es
    → is_child p name (get_or es k d) ≡ true → child es p name ≡ Some (k + 1)
child_is = child_is_by Ascii

pub found_is : (es : List Entry) (p : ℕ) (name : List ℕ) (m : ℕ) (d : Entry) → child es p name ≡ Some m
    → (0 < m) × (m ≤ length es) × (is_child p name (get_or es (m - 1) d) ≡ true)
found_is = found_is_by Ascii
