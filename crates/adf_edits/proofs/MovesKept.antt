-- A move keeps room: what stays keeps its place, and what is moved has one behind it.
-- Letters: xs are additions, front those before them, rest what stays; x, y additions; a, b, d, p, r paths; n a number of names.
use Rattle.std.proofs.Common.{◌≡◌, ◌≢◌, ℕ, zero, suc, List, [], ◌∷◌, ◌++◌, inl, inr, ◌-◌, ◌<◌, ◌≤◌, ◌==◌, length, get_or, map, refl, sym, ap, subst, ◌∙◌, arith}
use Rattle.std.proofs.Common.{true, false, Bool, cond, drop, take, nat_le, not, Some}
use Rattle.std.specs.{List.filter, List.list_any, List.take-map}
use Rattle.std.proofs.{Math.Seq.take-append_seam, Math.ListN.drop_of_length-le, lemmas.List.take-append-drop, lemmas.List.take-take, lemmas.List.take_all}
use Rattle.std.proofs.{lemmas.List.Elements.filter-append, lemmas.List.Folds.list_any-append, lemmas.List.Folds.list_any_at, lemmas.Grind.common_steps}
use Rattle.std.proofs.lemmas.Bool.{and_from, and_parts, cases_Bool, cases_lt, eqb-false, false_from_ne_true, le-leb, ne_eqb, Decides.nat_tests}
use Rattle.std.proofs.lemmas.List.{append-nil, append_assoc, append_cancel_left, drop-map, length-append, length-map, length-take-le, map-append}
use Rattle.adf_names.specs.Texts.{uppers}
use Rattle.adf_tree.specs.{Additions.Addition, Additions.AllHaveRoom, Additions.same_path, Tree.is_dir_body, Tree.last_of, Tree.parents_of}
use Rattle.adf_tree.proofs.{AddRoom.whole_path, Lists.some_in}
use Rattle.adf_edits.specs.{Edits.can_add, Edits.can_move, Edits.only_if, Edits.without, Paths.is_at_or_under}
use Rattle.adf_edits.specs.Edits.{has_directory, has_path, is_at, leads_to_directory, is_directory_at, is_within, moved_additions, rebased}
use Rattle.adf_edits.proofs.PlacedInOrder.{KeepsDirectory, PlacedAfter, any_kept, filtered_after, nothing_before, placed, roomy}
use Rattle.adf_edits.proofs.{Places.HasPlace, Places.same_paths, Places.some_passes, RoomKept.made_is, RoomKept.place_to_add}

-- paths within a directory

pub as_long : (a b : List (List ℕ)) → map uppers a ≡ map uppers b → length a ≡ length b
as_long a b same = sym (length-map a uppers) ∙ (ap length same ∙ length-map b uppers)

pub fronts : (n : ℕ) (a b : List (List ℕ)) → map uppers a ≡ map uppers b → map uppers (take n a) ≡ map uppers (take n b)
fronts n a b same = sym (take-map uppers n a) ∙ (ap (take n) same ∙ take-map uppers n b)

pub backs : (n : ℕ) (a b : List (List ℕ)) → map uppers a ≡ map uppers b → map uppers (drop n a) ≡ map uppers (drop n b)
backs n a b same = sym (drop-map uppers n a) ∙ (ap (drop n) same ∙ drop-map uppers n b)

pub no_longer : (d p : List (List ℕ)) → is_at_or_under d p ≡ true → length d ≤ length p
no_longer d p h = grind (arith, common_steps, and_parts, nat_le, nat_tests)

pub front_is : (d p : List (List ℕ)) → is_at_or_under d p ≡ true → map uppers (take (length d) p) ≡ map uppers d
front_is d p h = grind (arith, common_steps, same_paths, and_parts, nat_le)

pub within_from : (d p : List (List ℕ)) → length d ≤ length p → map uppers (take (length d) p) ≡ map uppers d → is_at_or_under d p ≡ true
within_from d p le same = grind (arith, common_steps, and_from, nat_le, le-leb, same_paths)

pub parents_long : (p : List (List ℕ)) → length (parents_of p) ≡ length p - 1
parents_long p = length-take-le (length p - 1) p (omega arith)

pub within_parent : (d a p : List (List ℕ)) → map uppers a ≡ map uppers (parents_of p) → is_at_or_under d a ≡ true → is_at_or_under d p ≡ true
within_parent d a p same h =
    let le = no_longer d a h in
    let long = as_long a (parents_of p) same in
    let short = parents_long p in
    within_from d p (omega arith)
    (ap (map uppers) (sym (take-take (length d) (length p - 1) p (omega arith))) ∙ (fronts (length d) (parents_of p) a (sym same) ∙ front_is d a h))

parent_within : (d a p : List (List ℕ)) → map uppers a ≡ map uppers (parents_of p) → length d < length p → is_at_or_under d p ≡ true
    → is_at_or_under d a ≡ true
parent_within d a p same lt h =
    let long = as_long a (parents_of p) same in
    let short = parents_long p in
    within_from d a (omega arith)
    (fronts (length d) a (parents_of p) same ∙ (ap (map uppers) (take-take (length d) (length p - 1) p (omega arith)) ∙ front_is d p h))

pub joined_within : (d r a : List (List ℕ)) → map uppers a ≡ map uppers (d ++ r) → is_at_or_under d a ≡ true
joined_within d r a same = grind (arith, common_steps, as_long, within_from, fronts, length-append d r, take-append_seam d r)

directory_is : (dir : List (List ℕ)) (y : Addition) → is_directory_at dir y ≡ true → map uppers y.path ≡ map uppers dir
directory_is dir y h = (same_paths y.path dir).0 (and_parts (is_dir_body y.body) (same_path y.path dir) h).1

-- what stays keeps its directories
stays_with : (from : List (List ℕ)) (x : Addition) → KeepsDirectory (λ y. not (is_within from y)) x
stays_with from x = grind (arith, cases_Bool, within_parent, directory_is)

-- an entry under a path has its directory there
none_here : (d : List (List ℕ)) (front : List Addition) (x : Addition) → (length d == 0) ≡ false → HasPlace front x.path
    → list_any (is_within d) front ≡ false → is_at d x ≡ false → is_within d x ≡ true → ⊥
none_here d front x some h before off t =
    let le = no_longer d x.path t in
    let some_names : length d ≢ 0 = eqb-false (length d) 0 some in
    elim (cases_lt (length d) (length x.path)) [
      | inr ge ↦
          let same = ap (map uppers) (sym (take_all (length d) x.path (omega arith))) ∙ front_is d x.path t in
          let clash = sym ((same_paths x.path d).1 same) ∙ off in cc
      | inl lt ↦
          let dir : List (List ℕ) = parents_of x.path in
          let short = parents_long x.path in
          let inner : (length dir == 0) ≡ false = ne_eqb (length dir) 0 (omega arith) in
          let there : has_directory front dir ≡ true = rw inner at h.directory in
          let one = some_passes (is_directory_at dir) front there in
          let e : Addition = some_in front (omega (arith, one.1)) in
          let y : Addition = get_or front one.0 e in
          let up : is_within d y ≡ true = parent_within d y.path x.path (directory_is dir y (one.2 e)) lt t in
          let clash = list_any_at (is_within d) front one.0 e one.1 up in cc
    ]

-- where nothing has a path, nothing is under it
none_within : (d : List (List ℕ)) (front xs : List Addition) → (length d == 0) ≡ false → PlacedAfter front xs
    → list_any (is_within d) front ≡ false → has_path xs d ≡ false → list_any (is_within d) xs ≡ false
none_within d front [] some h before free = refl
none_within d front (x ∷ xs) some h before free =
    let off : is_at d x ≡ false = false_from_ne_true (is_at d x) (λ t. let clash = rw t at free in cc) in
    let free_on : has_path xs d ≡ false = rw off at free in
    let out : is_within d x ≡ false = false_from_ne_true (is_within d x) (λ t. none_here d front x some h.0 before off t) in
    let more : list_any (is_within d) (front ++ x ∷ []) ≡ false = list_any-append (is_within d) front (x ∷ []) ∙ rw (before, out) refl in
    rw out (none_within d (front ++ x ∷ []) xs some h.1 more free_on)

drop_front : (n : ℕ) (a b : List (List ℕ)) → n ≤ length a → drop n (a ++ b) ≡ drop n a ++ b
drop_front zero a b le = refl
drop_front (suc n) [] b le = absurd (omega arith)
drop_front (suc n) (x ∷ a) b le = drop_front n a b (omega arith)

parents_joined : (q : List (List ℕ)) (x : List ℕ) → parents_of (q ++ x ∷ []) ≡ q
parents_joined q x = grind (arith, common_steps, length-append, take-append_seam)

behind_directory : (xs ys : List Addition) (dir : List (List ℕ)) → has_directory ys dir ≡ true → leads_to_directory (xs ++ ys) dir ≡ true
behind_directory xs ys dir h = grind (arith, common_steps, list_any-append, cases_Bool)

-- after a move

module _ (from to : List (List ℕ)) (rest : List Addition) (named : (length from == 0) ≡ false) (place : HasPlace rest to)
    (none : list_any (is_within to) rest ≡ false) where
  abbrev w : Addition → Bool
  w = is_within from

  abbrev rb : Addition → Addition
  rb = rebased from to

  abbrev n : ℕ
  n = length from

  pub free_rest : (r : List (List ℕ)) → has_path rest (to ++ r) ≡ false
  free_rest r = false_from_ne_true (has_path rest (to ++ r)) (λ h.
      let one = some_passes (is_at (to ++ r)) rest h in
      let d : Addition = some_in rest (omega (arith, one.1)) in
      let y : Addition = get_or rest one.0 d in
      let in_it : is_within to y ≡ true = joined_within to r y.path ((same_paths y.path (to ++ r)).0 (one.2 d)) in
      let there = list_any_at (is_within to) rest one.0 d one.1 in_it in cc)

  pub rejoined : (a b : List (List ℕ)) → is_at_or_under from a ≡ true → is_at_or_under from b ≡ true
      → map uppers (to ++ drop n a) ≡ map uppers (to ++ drop n b) → map uppers a ≡ map uppers b
  rejoined a b wa wb same =
      let ends : map uppers (drop n a) ≡ map uppers (drop n b) =
      append_cancel_left (map uppers to) (map uppers (drop n a)) (map uppers (drop n b))
      (sym (map-append uppers to (drop n a)) ∙ (same ∙ map-append uppers to (drop n b))) in
      ap (map uppers) (sym (take-append-drop n a)) ∙ (map-append uppers (take n a) (drop n a)
      ∙ (ap (λ us. us ++ map uppers (drop n a)) (front_is from a wa ∙ sym (front_is from b wb))
      ∙ (ap (λ us. map uppers (take n b) ++ us) ends
      ∙ (sym (map-append uppers (take n b) (drop n b)) ∙ ap (map uppers) (take-append-drop n b)))))

  free_moved : (x : Addition) (front : List Addition) → w x ≡ true → has_path front x.path ≡ false
      → has_path (map rb (filter w front)) (rb x).path ≡ false
  free_moved x [] wx h = refl
  free_moved x (y ∷ ys) wx h =
      let off : is_at x.path y ≡ false = false_from_ne_true (is_at x.path y) (λ t. let clash = rw t at h in cc) in
      let on : has_path ys x.path ≡ false = rw off at h in
      elim (cases_Bool (w y)) [
        | inr f ↦ rw f (free_moved x ys wx on)
        | inl t ↦
            let apart : is_at (rb x).path (rb y) ≡ false = false_from_ne_true (is_at (rb x).path (rb y)) (λ s.
            let same = rejoined y.path x.path t wx ((same_paths (rb y).path (rb x).path).0 s) in
            let clash = sym ((same_paths y.path x.path).1 same) ∙ off in cc) in
            subst (λ b. list_any (is_at (rb x).path) (map rb (cond b (y ∷ filter w ys) (filter w ys))) ≡ false) (sym t)
            (rw apart (free_moved x ys wx on))
      ]

  any_through : (p q : Addition → Bool) (xs : List Addition) → ((y : Addition) → p y ≡ true → q (rb y) ≡ true) → list_any p xs ≡ true
      → list_any q (map rb xs) ≡ true
  any_through p q [] h t = cc
  any_through p q (x ∷ xs) h t = elim (cases_Bool (p x)) [
    | inl g ↦ rw (h x g) refl
    | inr f ↦ let more = any_through p q xs h (rw f at t) in elim (cases_Bool (q (rb x))) [ inl g ↦ rw g refl | inr g ↦ rw (g, more) refl ]
  ]

  more_directory : (xs ys : List Addition) (dir : List (List ℕ)) → leads_to_directory xs dir ≡ true → leads_to_directory (xs ++ ys) dir ≡ true
  more_directory xs ys dir h = grind (arith, common_steps, cases_Bool, list_any-append)

  parents_moved : (p : List (List ℕ)) → n < length p → parents_of (to ++ drop n p) ≡ to ++ drop n (parents_of p)
  parents_moved p lt =
      let some : (length p == 0) ≡ false = ne_eqb (length p) 0 (omega arith) in
      let short = parents_long p in
      let q : List (List ℕ) = to ++ drop n (parents_of p) in
      let one : to ++ drop n p ≡ q ++ last_of p ∷ [] =
      ap (λ us. to ++ drop n us) (whole_path p [] some)
      ∙ (ap (λ us. to ++ us) (drop_front n (parents_of p) (last_of p ∷ []) (omega arith))
      ∙ sym (append_assoc to (drop n (parents_of p)) (last_of p ∷ []))) in
      ap parents_of one ∙ parents_joined q (last_of p)

  directory_moved : (front : List Addition) (x : Addition) → HasPlace front x.path → w x ≡ true
      → leads_to_directory (rest ++ map rb (filter w front)) (parents_of (rb x).path) ≡ true
  directory_moved front x h wx =
      let le = no_longer from x.path wx in
      let some : n ≢ 0 = eqb-false n 0 named in
      elim (cases_lt n (length x.path)) [
        | inl lt ↦
            let dir : List (List ℕ) = parents_of x.path in
            let short = parents_long x.path in
            let inner : (length dir == 0) ≡ false = ne_eqb (length dir) 0 (omega arith) in
            let there : has_directory front dir ≡ true = rw inner at h.directory in
            let within : (y : Addition) → is_directory_at dir y ≡ true → w y ≡ true =
            λ y d. parent_within from y.path x.path (directory_is dir y d) lt wx in
            let kept : has_directory (filter w front) dir ≡ true = any_kept (is_directory_at dir) w front within ∙ there in
            let target : List (List ℕ) = to ++ drop n dir in
            let goes : (y : Addition) → is_directory_at dir y ≡ true → is_directory_at target (rb y) ≡ true =
            λ y d.
            let both = and_parts (is_dir_body y.body) (same_path y.path dir) d in
            and_from (is_dir_body y.body) (same_path (to ++ drop n y.path) target) both.0
            ((same_paths (to ++ drop n y.path) target).1 (map-append uppers to (drop n y.path)
            ∙ (ap (λ us. map uppers to ++ us) (backs n y.path dir (directory_is dir y d)) ∙ sym (map-append uppers to (drop n dir))))) in
            let found : has_directory (map rb (filter w front)) target ≡ true =
            any_through (is_directory_at dir) (is_directory_at target) (filter w front) goes kept in
            subst (λ us. leads_to_directory (rest ++ map rb (filter w front)) us ≡ true) (sym (parents_moved x.path lt))
            (behind_directory rest (map rb (filter w front)) target found)
        | inr ge ↦
            let whole : to ++ drop n x.path ≡ to =
            ap (λ us. to ++ us) (drop_of_length-le x.path (omega arith)) ∙ append-nil to in
            subst (λ us. leads_to_directory (rest ++ map rb (filter w front)) (parents_of us) ≡ true) (sym whole)
            (more_directory rest (map rb (filter w front)) (parents_of to) place.directory)
      ]

  moved_place : (front : List Addition) (x : Addition) → HasPlace front x.path → w x ≡ true
      → HasPlace (rest ++ map rb (filter w front)) (rb x).path
  moved_place front x h wx = grind (arith, common_steps, length-append, eqb-false, ne_eqb, directory_moved, list_any-append, free_rest, free_moved)

  moved_after : (front xs : List Addition) → PlacedAfter front xs
      → PlacedAfter (rest ++ map rb (filter w front)) (map rb (filter w xs))
  moved_after front [] h = tt
  moved_after front (x ∷ xs) h =
      grind (arith, common_steps, filter-append, map-append, append_assoc, cases_Bool, moved_place, append-nil, moved_after (front ++ x ∷ []) xs h.1)

both_placed : (front xs ys : List Addition) → PlacedAfter front xs → PlacedAfter (front ++ xs) ys → PlacedAfter front (xs ++ ys)
both_placed front [] ys h g = subst (λ us. PlacedAfter us ys) (append-nil front) g
both_placed front (x ∷ xs) ys h g =
    (h.0, both_placed (front ++ x ∷ []) xs ys h.1 (subst (λ us. PlacedAfter us ys) (sym (append_assoc front (x ∷ []) xs)) g))

has_name : (path : List (List ℕ)) (front xs : List Addition) → PlacedAfter front xs → has_path xs path ≡ true → (length path == 0) ≡ false
has_name path front [] h there = cc
has_name path front (x ∷ xs) h there = elim (cases_Bool (is_at path x)) [
  | inl t ↦
      let long = as_long x.path path ((same_paths x.path path).0 t) in
      let some : length x.path ≢ 0 = eqb-false (length x.path) 0 h.0.some in
      ne_eqb (length path) 0 (omega arith)
  | inr f ↦ has_name path (front ++ x ∷ []) xs h.1 (rw f at there)
]

-- what is moved has a path with a name, and what stays has room for it
pub record MayMove (from to : List (List ℕ)) (xs : List Addition) : Type 0 where
  pub named : (length from == 0) ≡ false
  pub place : HasPlace (without from xs) to
  pub none : list_any (is_within to) (without from xs) ≡ false

stay : (from : List (List ℕ)) (xs : List Addition) → PlacedAfter [] xs → PlacedAfter [] (without from xs)
stay from xs was = filtered_after (λ y. not (is_within from y)) [] xs (λ i d lt. stays_with from (get_or xs i d)) was

pub may_move : (from to : List (List ℕ)) (xs : List Addition) → AllHaveRoom xs → can_move xs from to ≡ true → MayMove from to xs
may_move from to xs room free =
    let says = and_parts (has_path xs from) (can_add (without from xs) to) free in
    let was : PlacedAfter [] xs = placed [] xs nothing_before room in
    let place : HasPlace (without from xs) to = place_to_add (without from xs) to says.1 in
    record {
      named = has_name from [] xs was says.0;
      place = place;
      none = none_within to [] (without from xs) place.some (stay from xs was) refl place.free;
    }

pub move_kept : (from to : List (List ℕ)) (xs ys : List Addition) → AllHaveRoom xs
    → only_if (can_move xs from to) (moved_additions from to xs) ≡ Some ys → AllHaveRoom ys
move_kept from to xs ys room h =
    let made = made_is (can_move xs from to) (moved_additions from to xs) ys h in
    let may = may_move from to xs room made.0 in
    let rest : List Addition = without from xs in
    let was : PlacedAfter [] xs = placed [] xs nothing_before room in
    let behind : PlacedAfter (rest ++ []) (map (rebased from to) (filter (is_within from) xs)) =
    moved_after from to rest may.named may.place may.none [] xs was in
    let all = both_placed [] rest (map (rebased from to) (filter (is_within from) xs)) (stay from xs was)
    (subst (λ us. PlacedAfter us (map (rebased from to) (filter (is_within from) xs))) (append-nil rest) behind) in
    subst AllHaveRoom made.1 (roomy [] (moved_additions from to xs) nothing_before all)
