-- What is left where what has a path, and what is in the directory that has it, is taken away.
-- Letters: ps are entries by place, index that of their paths; x, y, d additions; i a place; from, to, path paths.
use Rattle.std.proofs.Common.{◌≡◌, ℕ, zero, suc, List, [], ◌∷◌, ◌++◌, inl, inr, ◌-◌, ◌<◌, ◌≤◌, length, map, take, refl, sym, ap, subst}
use Rattle.std.proofs.Common.{◌∙◌, ◌≢◌, ◌+◌, arith, true, false, Option, Some, None, drop, get_or, nat_lt, nat_le}
use Rattle.std.proofs.{lemmas.List.take_more, lemmas.List.Elements.filter-append, lemmas.List.Elements.filter_map-append}
use Rattle.std.proofs.lemmas.Bool.{and_from, and_parts, cases_Bool, false_from_ne_true, le-leb, lt-ltb, ltb-true}
use Rattle.std.specs.{BTreeMap.BTreeMap, Global.Vec, List.filter, List.list_any}
use Rattle.adf_names.specs.Texts.{uppers}
use Rattle.adf_tree.specs.{Additions.Addition, Additions.same_path, Tree.is_dir_body, Tree.parents_of}
use Rattle.adf_edits.specs.Edits.{can_add, can_move, is_at, is_within, moved_additions, only_if, rebased, without}
use Rattle.adf_edits.specs.Index.{HasRoomBut, IsIndexed, IsIndexedAt, IsRooted, StandsIn, entry_placed, left_by, left_without}
use Rattle.adf_edits.specs.Index.{same_entry, standing}
use Rattle.adf_edits.specs.{declared.index.Places.Places, Paths.is_at_or_under, Paths.is_under}
use Rattle.adf_edits.proofs.{IndexedPaths.may_be_added, Places.same_paths, StandingPlaces.passing}
use Rattle.adf_edits.proofs.MovesKept.{as_long, front_is, no_longer, parents_long, within_parent}

pub left_entry : (path : List (List ℕ)) (ps : List (Option Addition)) (i : ℕ)
    → entry_placed (left_without path ps) (Some i) ≡ left_by path (entry_placed ps (Some i))
left_entry path [] i = refl
left_entry path (o ∷ ps) zero = refl
left_entry path (o ∷ ps) (suc i) = left_entry path ps i

-- what stands still stood, and is not within

pub stands_left : (path : List (List ℕ)) (ps : List (Option Addition)) (i : ℕ) (x : Addition) → StandsIn (left_without path ps) i x
    → StandsIn ps i x × (is_within path x ≡ false)
stands_left path [] i x h = cc
stands_left path (None ∷ ps) zero x h = cc
stands_left path (Some y ∷ ps) zero x h = elim (cases_Bool (is_within path y)) [
  | inl t ↦ let clash = rw t at h in cc
  | inr f ↦
      let stood = rw f at h in
      let same : y ≡ x = cc in (stood, subst (λ (z : Addition). is_within path z ≡ false) same f)
]
stands_left path (None ∷ ps) (suc i) x h = stands_left path ps i x h
stands_left path (Some y ∷ ps) (suc i) x h = stands_left path ps i x h

pub left_stands : (path : List (List ℕ)) (ps : List (Option Addition)) (i : ℕ) (x : Addition) → StandsIn ps i x → is_within path x ≡ false
    → StandsIn (left_without path ps) i x
left_stands path [] i x h f = cc
left_stands path (None ∷ ps) zero x h f = cc
left_stands path (Some y ∷ ps) zero x h f = let same : y ≡ x = cc in rw (same, f) refl
left_stands path (None ∷ ps) (suc i) x h f = left_stands path ps i x h f
left_stands path (Some y ∷ ps) (suc i) x h f = left_stands path ps i x h f

pub left_standing : (path : List (List ℕ)) (ps : List (Option Addition)) → standing (left_without path ps) ≡ without path (standing ps)
left_standing path [] = refl
left_standing path (None ∷ ps) = left_standing path ps
left_standing path (Some y ∷ ps) = elim (cases_Bool (is_within path y)) [
  | inl t ↦ rw t (left_standing path ps)
  | inr f ↦ rw f (ap (λ (xs : List Addition). y ∷ xs) (left_standing path ps))
]

-- paths

under_within : (from path : List (List ℕ)) → is_under from path ≡ true → is_at_or_under from path ≡ true
under_within from path h =
    let both = and_parts (nat_lt (length from) (length path)) (same_path (take (length from) path) from) h in
    let lt : length from < length path = ltb-true (length from) (length path) both.0 in
    and_from (nat_le (length from) (length path)) (same_path (take (length from) path) from) (le-leb (length from) (length path) (omega (arith, lt))) both.1

-- what is in a directory that is within is under the path
under_from_directory : (from path : List (List ℕ)) (d : Addition) → length path ≢ 0 → is_within from d ≡ true
    → same_path d.path (parents_of path) ≡ true → is_under from path ≡ true
under_from_directory from path d some within h =
    let same : map uppers d.path ≡ map uppers (parents_of path) = (same_paths d.path (parents_of path)).0 h in
    let le : length from ≤ length d.path = no_longer from d.path within in
    let long : length d.path ≡ length (parents_of path) = as_long d.path (parents_of path) same in
    let short : length (parents_of path) ≡ length path - 1 = parents_long path in
    let lt : length from < length path = omega (arith, le, long, short, some) in
    and_from (nat_lt (length from) (length path)) (same_path (take (length from) path) from) (lt-ltb (length from) (length path) lt)
    ((same_paths (take (length from) path) from).1 (front_is from path (within_parent from d.path path same within)))

-- a path that is not under what is taken away keeps its directory
pub rooted_left : (from path : List (List ℕ)) (ps : List (Option Addition)) → is_under from path ≡ false → IsRooted ps path
    → IsRooted (left_without from ps) path
rooted_left from path ps apart rooted = elim rooted [
  | inl one ↦ inl one
  | inr more ↦
      let d : Addition = more.1.1 in
      let both = and_parts (is_dir_body d.body) (same_path d.path (parents_of path)) more.1.3 in
      let out : is_within from d ≡ false = false_from_ne_true (is_within from d) (λ within.
      let clash : true ≡ false = sym (under_from_directory from path d more.0 within both.1) ∙ apart in cc) in
      inr (more.0, (more.1.0, d, left_stands from ps more.1.0 d more.1.2 out, more.1.3))
]

pub indexed_left : (from : List (List ℕ)) (ps : List (Option Addition)) (index : BTreeMap (Vec ℕ) ℕ) → IsIndexed ps index
    → IsIndexed (left_without from ps) index
indexed_left from ps index is = record {
  found = λ i x s. is.found i x (stands_left from ps i x s).0;
  rooted = λ i x s.
      let stood = stands_left from ps i x s in
      let apart : is_under from x.path ≡ false = false_from_ne_true (is_under from x.path) (λ h.
      let clash : true ≡ false = sym (under_within from x.path h) ∙ stood.1 in cc) in
      rooted_left from x.path ps apart (is.rooted i x stood.0);
}

-- what is moved
pub directory_step : (p : Places) (i : ℕ) (from to : List (List ℕ)) → IsIndexedAt p i from → is_under from to ≡ false → HasRoomBut p from to
    → (qs : List (Option Addition))
    → qs ≡ left_without from p.entries.items → (taken : List Addition) → taken ≡ filter (is_within from) (standing p.entries.items)
    → (all : List Addition) → all ≡ standing qs ++ map (rebased from to) taken
    → only_if (can_move (standing p.entries.items) from to) (moved_additions from to (standing p.entries.items)) ≡ Some all
directory_step p i from to found apart room qs left taken are all is =
    let ps : List (Option Addition) = p.entries.items in
    let stay : standing (left_without from ps) ≡ without from (standing ps) = left_standing from ps in
    let may : can_add (without from (standing ps)) to ≡ true =
    subst (λ xs. can_add xs to ≡ true) stay
    (may_be_added (left_without from ps) p.index (indexed_left from ps p.index (found.sound found.whole)) to room.rooted room.free) in
    let there : list_any (is_at from) (standing ps) ≡ true = passing (is_at from) ps i found.entry.0 found.entry.1 found.entry.2 in
    let made : all ≡ moved_additions from to (standing ps) =
    is ∙ (ap (λ (us : List (Option Addition)). standing us ++ map (rebased from to) taken) left
    ∙ (ap (λ xs. xs ++ map (rebased from to) taken) stay ∙ ap (λ xs. without from (standing ps) ++ map (rebased from to) xs) are)) in
    rw (there, may) (ap Some (sym made))

-- what is taken entry by entry

at_front : (f : Option Addition → Option Addition) (ps : List (Option Addition)) (i : ℕ) (o : Option Addition)
    → get_or (map f (take i ps) ++ drop i ps) i o ≡ get_or ps i o
at_front f ps zero o = refl
at_front f [] (suc i) o = refl
at_front f (p ∷ ps) (suc i) o = at_front f ps i o

pub taken_more : (path : List (List ℕ)) (ps qs : List (Option Addition)) (i : ℕ) (o : Option Addition) → i < length ps
    → qs ≡ left_without path (take i ps) ++ drop i ps → o ≡ get_or qs i o
    → filter (is_within path) (standing (take (i + 1) ps)) ≡ filter (is_within path) (standing (take i ps)) ++ filter (is_within path) (standing (o ∷ []))
taken_more path ps qs i o lt are is =
    let here : get_or ps i o ≡ o = sym (is ∙ (ap (λ us. get_or us i o) are ∙ at_front (left_by path) ps i o)) in
    let more : take (i + 1) ps ≡ take i ps ++ o ∷ [] = take_more ps i o lt ∙ ap (λ u. take i ps ++ u ∷ []) here in
    ap (λ us. filter (is_within path) (standing us)) more
    ∙ (ap (filter (is_within path)) (filter_map-append same_entry (take i ps) (o ∷ []))
    ∙ filter-append (is_within path) (standing (take i ps)) (standing (o ∷ [])))
