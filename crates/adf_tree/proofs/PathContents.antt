-- The content of a tree by paths, and what `add` promises of paths and chains.
-- Letters: l the letters whose case is ignored.
use Rattle.std.proofs.Common.{◌≡◌, ◌≢◌, ℕ, ◌+◌, ◌-◌, ◌<◌, ◌≤◌, inl, inr, List, [], ◌∷◌, ◌++◌, length, get_or, map, Option, Some, None, arith, sym, refl, ◌∙◌}
use Rattle.std.proofs.Common.{ap, if◌then◌else◌, zero, suc, ◌==◌, ◌&&◌, Result, Ok, Err, option_map, position, OnOk, is_ok}
use Rattle.std.specs.{Option.option_and_then, Str.bytes_eq}
use Rattle.std.proofs.{lemmas.Bool.cases_eq, lemmas.Bool.ne_eqb, lemmas.Bool.cases_lt, lemmas.Grind.common_steps}
use Rattle.std.proofs.lemmas.List.{append-nil, append_assoc, map-append}
use Rattle.adf_base.specs.declared.hash.Letters.{Letters, TheVariants.Ascii}
use Rattle.adf_tree.specs.{declared.entry.Entry.Entry, Tree.new_entry_by, Tree.room_at_by, Tree.IsTreeBy, Tree.MayAddBy, declared.entry.Body.Body}
use Rattle.adf_names.specs.{Texts.uppers, Texts.uppers_by, declared.meta.Meta.Meta}
use Rattle.adf_tree.specs.Paths.{entry_content, content_at_by, path_in_by, path_of_by, AddsOneBy, names_in}
use Rattle.adf_tree.specs.Tree.{place_by, rank_by, moved, added_by, entry, child, child_by, directory_from, directory_from_by, find_by, find_from, find_from_by}
use Rattle.adf_tree.proofs.TreeInvariant.{moved_below, moved_above, moved_up, moved_near, length_added, at_place, place_le_by, new_get}
use Rattle.adf_tree.proofs.ChildLookup.{child_new, found_is_by, child_says_by, parent_stays}
use Rattle.adf_tree.proofs.{PathLookup.then_find, PathLookup.then_find_by, PathLookup.leads, ChainOrder.chain_added}
use Rattle.adf_tree.proofs.AddRoom.{room_may_add_by, room_says_by, next_dir_by, IsNewBy}
use Rattle.std.proofs.lemmas.Option.{slice_get_within, get_or_from_slice_get, slice_get-get_or, slice_get_past}

-- entries by number

pub entry_says : (es : List Entry) (n : ℕ) (x : Entry) → entry es n ≡ Some x → (0 < n) × (n ≤ length es) × ((d : Entry) → get_or es (n - 1) d ≡ x)
entry_says es n x h = grind (arith, common_steps, cases_eq, ne_eqb, slice_get_within, get_or_from_slice_get)

pub entry_at : (es : List Entry) (n : ℕ) (d : Entry) → 0 < n → n ≤ length es → entry es n ≡ Some (get_or es (n - 1) d)
entry_at es n d some most = rw (ne_eqb n 0 (omega arith)) (slice_get-get_or es (n - 1) d (omega arith))

-- paths of nodes

abbrev pub path_past : Letters → List Entry → ℕ → Option Entry → List (List ℕ)
path_past l es f o = elim o [ None ↦ [] | Some e ↦ path_in_by l es f e.parent ++ uppers_by l e.name ∷ [] ]

-- the names of a node that is this entry, or none
abbrev pub names_past : List Entry → ℕ → Option Entry → List (List ℕ)
names_past es f o = elim o [ None ↦ [] | Some e ↦ names_in es f e.parent ++ e.name ∷ [] ]

-- without case the names are the path
pub raised_names : (l : Letters) (es : List Entry) (f n : ℕ) → map (uppers_by l) (names_in es f n) ≡ path_in_by l es f n
raised_names l es zero n = refl
raised_names l es (suc f) n =
    elim (entry es n) as (λ o. map (uppers_by l) (names_past es f o) ≡ path_past l es f o) [
      | None ↦ refl
      | Some e ↦ rw (map-append (uppers_by l) (names_in es f e.parent) (e.name ∷ []), raised_names l es f e.parent)
    ]

-- the names do not hang on how many are asked for, where those are enough
fuel_past : (es : List Entry) (f g : ℕ) (o : Option Entry)
    → ((e : Entry) → o ≡ Some e → names_in es f e.parent ≡ names_in es g e.parent) → names_past es f o ≡ names_past es g o
fuel_past es f g None h = refl
fuel_past es f g (Some e) h = ap (λ names. names ++ e.name ∷ []) (h e refl)

pub names_fuel : (l : Letters) (es : List Entry) (f g n : ℕ) → IsTreeBy l es → n ≤ f → n ≤ g → names_in es f n ≡ names_in es g n
names_fuel l es zero zero n t a b = refl
names_fuel l es zero (suc g) n t a b = let none : 0 ≡ n = omega arith in ap (λ v. names_past es g (entry es v)) none
names_fuel l es (suc f) zero n t a b = let none : n ≡ 0 = omega arith in ap (λ v. names_past es f (entry es v)) none
names_fuel l es (suc f) (suc g) n t a b = fuel_past es f g (entry es n) (λ e h.
    let says = entry_says es n e h in
    let small = rw (says.2 e) at (t.parents (n - 1) e (omega (arith, says.0, says.1))) in
    names_fuel l es f g e.parent t (omega (arith, small, says.0)) (omega (arith, small, says.0)))

fuel : (l : Letters) (es : List Entry) (f g n : ℕ) → IsTreeBy l es → n ≤ f → n ≤ g → path_in_by l es f n ≡ path_in_by l es g n
fuel l es f g n t a b = sym (raised_names l es f n) ∙ (ap (map (uppers_by l)) (names_fuel l es f g n t a b) ∙ raised_names l es g n)

child_path : (l : Letters) (es : List Entry) (p : ℕ) (x : List ℕ) (k : ℕ) (d : Entry) → IsTreeBy l es → child_by l es p x ≡ Some k
    → path_of_by l es k ≡ path_of_by l es p ++ uppers_by l x ∷ []
child_path l es p x k d t h = grind (arith, common_steps, child_says_by, entry_at, fuel, found_is_by l es p x k d h)

-- a path leads to the node whose path it is
pub led : (l : Letters) (es : List Entry) (p m : ℕ) (q : List (List ℕ)) (d : Entry) → IsTreeBy l es → find_from_by l es p q ≡ Some m
    → path_of_by l es m ≡ path_of_by l es p ++ map (uppers_by l) q
led l es p m [] d t h = let same : m ≡ p = cc in rw same (sym (append-nil (path_of_by l es p)))
led l es p m (x ∷ xs) d t h =
    (elim (child_by l es p x) as (λ o. child_by l es p x ≡ o → then_find_by l es xs o ≡ Some m
    → path_of_by l es m ≡ path_of_by l es p ++ (uppers_by l x ∷ map (uppers_by l) xs)) [
      | None ↦ λ _ g. cc
      | Some k ↦ λ is g.
          rw (led l es k m xs d t g, child_path l es p x k d t is)
          (append_assoc (path_of_by l es p) (uppers_by l x ∷ []) (map (uppers_by l) xs))
    ]) refl h

-- names count without their case
child_uppers : (l : Letters) (es : List Entry) (p : ℕ) (x y : List ℕ) → uppers_by l x ≡ uppers_by l y → child_by l es p x ≡ child_by l es p y
child_uppers l es p x y h = ap (λ u. option_map (λ i. i + 1) (position (λ e. (e.parent == p) && bytes_eq (uppers_by l e.name) u) es)) h

pub find_uppers_by : (l : Letters) (es : List Entry) (p : ℕ) (a b : List (List ℕ)) → map (uppers_by l) a ≡ map (uppers_by l) b
    → find_from_by l es p a ≡ find_from_by l es p b
find_uppers_by l es p [] [] h = refl
find_uppers_by l es p [] (y ∷ ys) h = cc
find_uppers_by l es p (x ∷ xs) [] h = cc
find_uppers_by l es p (x ∷ xs) (y ∷ ys) h =
    let one : uppers_by l x ≡ uppers_by l y = cc in
    let rest : map (uppers_by l) xs ≡ map (uppers_by l) ys = cc in
    ap (then_find_by l es xs) (child_uppers l es p x y one)
    ∙ elim (child_by l es p y) as (λ o. then_find_by l es xs o ≡ then_find_by l es ys o) [ None ↦ refl | Some k ↦ find_uppers_by l es k xs ys rest ]

pub find_snoc_by : (l : Letters) (es : List Entry) (p m : ℕ) (a : List (List ℕ)) (x : List ℕ) → find_from_by l es p a ≡ Some m
    → find_from_by l es p (a ++ x ∷ []) ≡ then_find_by l es [] (child_by l es m x)
find_snoc_by l es p m [] x h = let same : p ≡ m = cc in rw same
find_snoc_by l es p m (y ∷ ys) x h =
    (elim (child_by l es p y) as (λ o. then_find_by l es ys o ≡ Some m
    → then_find_by l es (ys ++ x ∷ []) o ≡ then_find_by l es [] (child_by l es m x)) [
      | None ↦ λ g. cc
      | Some k ↦ λ g. find_snoc_by l es k m ys x g
    ]) h

-- an entry is told as before under its new number
entry_none : (es : List Entry) (n : ℕ) → length es < n → entry es n ≡ None
entry_none es n h = rw (ne_eqb n 0 (omega arith)) (slice_get_past es (n - 1) (omega arith))

same_content : (l : Letters) (es : List Entry) (e : Entry) (m : ℕ) → IsTreeBy l es
    → option_map entry_content (entry (added_by l es e) (moved (place_by l es (rank_by l e) + 1) m)) ≡ option_map entry_content (entry es m)
same_content l es e m t =
    let n : ℕ = place_by l es (rank_by l e) + 1 in
    let long = length_added es e t in
    let near = moved_near n m in
    elim (cases_eq m 0) [
      | inl z ↦ rw (z, moved_below n 0 (omega arith))
      | inr nz ↦
          elim (cases_lt (length es) m) [
            | inl past ↦
                let up = moved_above n m (omega (arith, place_le_by l es (rank_by l e))) in
                rw (entry_none (added_by l es e) (moved n m) (omega (arith, up)), entry_none es m past)
            | inr within ↦
                rw (
                  entry_at (added_by l es e) (moved n m) e (omega (arith, moved_up n m)) (omega arith),
                  new_get es e m e t (omega arith) within,
                  entry_at es m e (omega arith) within,
                )
          ]
    ]

-- the laws
module _ {l : Letters} {es : List Entry} {e : Entry} (parents q : List (List ℕ)) (t : IsTreeBy l es) (may : MayAddBy l es e)
    (to : find_by l es parents ≡ Some e.parent) where
  -- the path of the new entry leads to it, in whatever case
  found_new : map (uppers_by l) q ≡ map (uppers_by l) (parents ++ e.name ∷ [])
      → find_by l (added_by l es e) q ≡ Some (place_by l es (rank_by l e) + 1)
  found_new same =
      let n : ℕ = place_by l es (rank_by l e) + 1 in
      let there : find_by l (added_by l es e) parents ≡ Some e.parent =
      elim (leads l es e 0 parents t may) [
        | inl h ↦ rw (moved_below n 0 (omega arith), to, parent_stays es e t may.parent) at h
        | inr g ↦ let no_way : None ≡ Some e.parent = sym g.old ∙ to in cc
      ] in
      rw (
        find_uppers_by l (added_by l es e) 0 q (parents ++ e.name ∷ []) same,
        find_snoc_by l
            (added_by l es e) 0 e.parent parents e.name there,
        child_new es e e.name t may refl,
      )
      refl

  content_new : map (uppers_by l) q ≡ map (uppers_by l) (parents ++ e.name ∷ []) → content_at_by l (added_by l es e) q ≡ Some (entry_content e)
  content_new same =
      let n : ℕ = place_by l es (rank_by l e) + 1 in
      let at : n - 1 ≡ place_by l es (rank_by l e) = omega arith in
      let short : n ≤ length (added_by l es e) = omega (arith, length_added es e t, place_le_by l es (rank_by l e)) in
      rw (found_new same, entry_at (added_by l es e) n e (omega arith) short, at, at_place es e e t)

  -- every other path tells what it told
  content_old : map (uppers_by l) q ≢ map (uppers_by l) (parents ++ e.name ∷ []) → content_at_by l (added_by l es e) q ≡ content_at_by l es q
  content_old other =
      let n : ℕ = place_by l es (rank_by l e) + 1 in
      elim (leads l es e 0 q t may) [
        | inl h ↦
            let leads_on = rw (moved_below n 0 (omega arith)) at h in
            rw leads_on
            (elim (find_by l es q) as (λ o. option_and_then (λ m. option_map entry_content (entry (added_by l es e) m)) (option_map (moved n) o)
            ≡ option_and_then (λ m. option_map entry_content (entry es m)) o) [ None ↦ refl | Some m ↦ same_content l es e m t ])
        | inr g ↦
            absurd (other (ap (map (uppers_by l)) g.is
            ∙ rw (
              map-append (uppers_by l) g.front (g.last ∷ []),
              map-append (uppers_by l) parents (e.name ∷ []),
              g.same,
              ← led l es 0 e.parent g.front e t g.leads,
              led l es 0 e.parent parents e t to,
            ) refl))
      ]

pub directory_found_by : (l : Letters) (es : List Entry) (p : ℕ) (names : List (List ℕ)) (q : ℕ) → directory_from_by l es p names ≡ Ok q
    → find_from_by l es p names ≡ Some q
directory_found_by l es p [] q h = let same : p ≡ q = cc in ap Some same
directory_found_by l es p (x ∷ xs) q h =
    let next = next_dir_by l es xs q (child_by l es p x) h in
    ap (then_find_by l es xs) next.1 ∙ directory_found_by l es next.0 xs q next.3

pub adds_one : (l : Letters) (es : List Entry) (e : Entry) (parents path : List (List ℕ)) → IsTreeBy l es
    → room_at_by l es e.name (directory_from_by l es 0 parents) ≡ Ok e.parent → path ≡ parents ++ e.name ∷ []
    → AddsOneBy l es (added_by l es e) e path
adds_one l es e parents path t room is = grind (arith, room_may_add_by, directory_found_by, room_says_by, content_new, content_old, chain_added)

pub added_paths : {l : Letters} {E : Type 0} (r : Result (Unit {0}) E) (es new : List Entry) (e : Entry) (path : List (List ℕ)) (meta : Meta)
    (body : Body) → IsTreeBy l es → IsNewBy l es path meta body e → new ≡ (if is_ok r then added_by l es e else es)
    → OnOk r (AddsOneBy l es new (new_entry_by l es path meta body) path)
added_paths {l} (Ok u) es new e path meta body t fresh h = grind (arith, common_steps, adds_one)
added_paths {l} (Err f) es new e path meta body t fresh h = tt

-- by ASCII letters

pub find_uppers : (es : List Entry) (p : ℕ) (a b : List (List ℕ)) → map uppers a ≡ map uppers b → find_from es p a ≡ find_from es p b
find_uppers = find_uppers_by Ascii

pub find_snoc : (es : List Entry) (p m : ℕ) (a : List (List ℕ)) (x : List ℕ) → find_from es p a ≡ Some m
    → find_from es p (a ++ x ∷ []) ≡ then_find es [] (child es m x)
find_snoc = find_snoc_by Ascii

pub directory_found : (es : List Entry) (p : ℕ) (names : List (List ℕ)) (q : ℕ) → directory_from es p names ≡ Ok q → find_from es p names ≡ Some q
directory_found = directory_found_by Ascii
