-- Room for a path, told by the additions of a tree: the path has a name, its directory is there, and nothing has the path.
-- Letters: xs are additions, es the entries of their tree; x, y additions, e an entry; n, m, q nodes; dir, path, names paths.
use Rattle.std.proofs.Common.{◌≡◌, ℕ, zero, suc, List, [], ◌∷◌, inl, inr, ◌-◌, ◌<◌, ◌≤◌, ◌==◌, length, get_or, map, refl, sym, ap, ◌∙◌, ◌↔◌, arith, subst, Bool}
use Rattle.std.proofs.{Common.true, Common.false, Common.Option, Common.Some, Common.None, Common.Ok, Common.IsOk, Common.option_map, lemmas.Bool.and_from}
use Rattle.std.proofs.{lemmas.Bool.and_parts, lemmas.Bool.cases_Bool, lemmas.Bool.eqb-true, lemmas.Bool.false_from_ne_true, lemmas.List.nil_from_length}
use Rattle.std.proofs.{lemmas.List.Folds.list_any_at, lemmas.Slice.Eq.bytes_eq-Decides, lemmas.Slice.Eq.slice_eq-Decides, lemmas.Grind.common_steps}
use Rattle.std.specs.{List.list_any, Option.option_and_then}
use Rattle.adf_names.specs.Texts.{uppers}
use Rattle.adf_tree.specs.{declared.entry.Entry.Entry, Paths.Content, Paths.content_at, Paths.entry_content}
use Rattle.adf_tree.specs.Additions.{Addition, IsTreeOf, content_of, same_path}
use Rattle.adf_tree.specs.Tree.{IsDir, IsTree, child, directory_from, entry, find, find_from, is_dir, is_dir_body, last_of, new_entry, parents_of, room_for}
use Rattle.adf_tree.proofs.AddRoom.{directory_is_dir, room_says, whole_path}
use Rattle.adf_tree.proofs.{ChildLookup.child_says, ChildLookup.found_is, Lists.some_in, PathLookup.then_find, TreeOfAdditions.has_room}
use Rattle.adf_tree.proofs.PathContents.{directory_found, entry_at, entry_says, find_snoc, find_uppers}
use Rattle.adf_drafts.proofs.DraftLookup.{dir_at, past}
use Rattle.adf_edits.specs.Edits.{has_path, is_at, leads_to_directory, is_directory_at}

-- a path with a name, whose directory is there, and that nothing has
pub record HasPlace (xs : List Addition) (path : List (List ℕ)) : Type 0 where
  pub some : (length path == 0) ≡ false
  pub directory : leads_to_directory xs (parents_of path) ≡ true
  pub free : has_path xs path ≡ false

pub same_paths : (a b : List (List ℕ)) → (same_path a b ≡ true) ↔ (map uppers a ≡ map uppers b)
same_paths a b = slice_eq-Decides bytes_eq-Decides (map uppers a) (map uppers b) (same_path a b) refl

pub some_passes : (p : Addition → Bool) (xs : List Addition) → list_any p xs ≡ true
    → (i : ℕ) × (i < length xs) × ((d : Addition) → p (get_or xs i d) ≡ true)
some_passes p [] h = cc
some_passes p (x ∷ xs) h = elim (cases_Bool (p x)) [
  | inl t ↦ (0, omega arith, λ d. t)
  | inr f ↦ let more = some_passes p xs (rw f at h) in (suc more.0, omega (arith, more.1), more.2)
]

-- paths that lead to directories

next_found : (es : List Entry) (names : List (List ℕ)) (q : ℕ) (o : Option ℕ) → then_find es names o ≡ Some q
    → (n : ℕ) × (o ≡ Some n) × (find_from es n names ≡ Some q)
next_found es names q None h = cc
next_found es names q (Some n) h = (n, refl, h)

found_is_some : (es : List Entry) (p : ℕ) (x : List ℕ) (m : ℕ) → child es p x ≡ Some m → (0 < m) × (m ≤ length es)
found_is_some es p x m h = grind (arith, common_steps, found_is)

is_dir_from : (es : List Entry) (n : ℕ) → IsDir es n → is_dir es n ≡ true
is_dir_from es zero h = refl
is_dir_from es (suc i) h =
    let both = h (omega arith) in
    let d : Entry = some_in es (omega (arith, both.0)) in
    dir_at es (suc i) d (omega arith) both.0 ∙ ap is_dir_body (both.1 d)

dir_before : (es : List Entry) (n : ℕ) (names : List (List ℕ)) (q : ℕ) → IsTree es → find_from es n names ≡ Some q → is_dir es q ≡ true
    → is_dir es n ≡ true
dir_before es n [] q t h dir = let same : n ≡ q = cc in rw same dir
dir_before es n (x ∷ xs) q t h dir =
    let next = next_found es xs q (child es n x) h in
    let d : Entry = some_in es (omega (arith, (found_is_some es n x next.0 next.1).0, (found_is_some es n x next.0 next.1).1)) in
    let is = found_is es n x next.0 d next.1 in
    let up : (get_or es (next.0 - 1) d).parent ≡ n = (child_says n x (get_or es (next.0 - 1) d) is.2).0 in
    is_dir_from es n (subst (IsDir es) up (t.dirs (next.0 - 1) d (omega (arith, is.0, is.1))))

find_dirs : (es : List Entry) (p : ℕ) (names : List (List ℕ)) (q : ℕ) → IsTree es → find_from es p names ≡ Some q → is_dir es q ≡ true
    → directory_from es p names ≡ Ok q
find_dirs es p [] q t h dir = let same : p ≡ q = cc in ap Ok same
find_dirs es p (x ∷ xs) q t h dir =
    let next = next_found es xs q (child es p x) h in
    ap (past es xs) next.1 ∙ rw (dir_before es next.0 xs q t next.2 dir) (find_dirs es next.0 xs q t next.2 dir)

past_root : (es : List Entry) (n : ℕ) (names : List (List ℕ)) (q : ℕ) → 0 < n → find_from es n names ≡ Some q → 0 < q
past_root es n [] q some h = let same : n ≡ q = cc in rw (← same) some
past_root es n (x ∷ xs) q some h =
    let next = next_found es xs q (child es n x) h in
    past_root es next.0 xs q (found_is_some es n x next.0 next.1).0 next.2

under_root : (es : List Entry) (n : ℕ) (names : List (List ℕ)) (q : ℕ) → (length names == 0) ≡ false → find_from es n names ≡ Some q → 0 < q
under_root es n [] q some h = cc
under_root es n (x ∷ xs) q some h = grind (arith, common_steps, next_found, past_root, found_is_some)

-- content at a path

entry_from : (o : Option Entry) (c : Content) → option_map entry_content o ≡ Some c → (e : Entry) × (o ≡ Some e) × (entry_content e ≡ c)
entry_from None c h = cc
entry_from (Some e) c h = (e, refl, cc)

content_from : (es : List Entry) (c : Content) (o : Option ℕ) → option_and_then (λ n. option_map entry_content (entry es n)) o ≡ Some c
    → (n : ℕ) × (e : Entry) × (o ≡ Some n) × (entry es n ≡ Some e) × (entry_content e ≡ c)
content_from es c None h = cc
content_from es c (Some n) h = let found = entry_from (entry es n) c h in (n, found.0, refl, found.1, found.2)

-- the entry of an addition that is a directory
entry_dir : (es : List Entry) (n : ℕ) (e : Entry) (y : Addition) → entry es n ≡ Some e → entry_content e ≡ content_of y → is_dir_body y.body ≡ true
    → is_dir es n ≡ true
entry_dir es n e y h same dir = grind (arith, common_steps, entry_says, dir_at)

-- room, told by the additions
module _ (es : List Entry) (xs : List Addition) (t : IsTreeOf es xs) where
  -- what has a path is found there
  found_at : (dir : List (List ℕ)) (i : ℕ) (d : Addition) → i < length xs → same_path (get_or xs i d).path dir ≡ true
      → (n : ℕ) × (e : Entry) × (find es dir ≡ Some n) × (entry es n ≡ Some e) × (entry_content e ≡ content_of (get_or xs i d))
  found_at dir i d lt same = grind (arith, common_steps, content_from, find_uppers, same_paths)

  pub nothing_at : (path : List (List ℕ)) → has_path xs path ≡ false → content_at es path ≡ None
  nothing_at path none = grind (arith, common_steps, list_any_at, same_paths)

  to_directory : (dir : List (List ℕ)) → leads_to_directory xs dir ≡ true → (q : ℕ) × (directory_from es 0 dir ≡ Ok q)
  to_directory dir h = elim (cases_Bool (length dir == 0)) [
    | inl z ↦ (0, ap (directory_from es 0) (nil_from_length dir (eqb-true (length dir) 0 z)))
    | inr f ↦
        let one = some_passes (is_directory_at dir) xs (rw f at h) in
        let d : Addition = some_in xs (omega (arith, one.1)) in
        let y : Addition = get_or xs one.0 d in
        let both = and_parts (is_dir_body y.body) (same_path y.path dir) (one.2 d) in
        let at = found_at dir one.0 d one.1 both.1 in
        (at.0, find_dirs es 0 dir at.0 t.tree at.2 (entry_dir es at.0 at.1 y at.3 at.4 both.0))
  ]

  no_child : (q : ℕ) (name : List ℕ) (o : Option ℕ) → child es q name ≡ o
      → option_and_then (λ n. option_map entry_content (entry es n)) (then_find es [] o) ≡ None → child es q name ≡ None
  no_child q name None is h = is
  no_child q name (Some m) is h =
      let within = found_is_some es q name m is in
      let d : Entry = some_in es (omega (arith, within.0, within.1)) in
      let there = entry_at es m d within.0 within.1 in
      let clash = rw there at h in cc

  pub room_from : (path : List (List ℕ)) → HasPlace xs path → IsOk (room_for es path)
  room_from path h =
      let to = to_directory (parents_of path) h.directory in
      let here = whole_path path [] h.some in
      let leads : find es path ≡ then_find es [] (child es to.0 (last_of path)) =
      ap (find es) here ∙ find_snoc es 0 to.0 (parents_of path) (last_of path) (directory_found es 0 (parents_of path) to.0 to.1) in
      let none : child es to.0 (last_of path) ≡ None =
      no_child to.0 (last_of path) (child es to.0 (last_of path)) refl
      (ap (option_and_then (λ n. option_map entry_content (entry es n))) (sym leads) ∙ nothing_at path h.free) in
      rw (h.some, to.1, none) refl

  directory_there : (dir : List (List ℕ)) (q : ℕ) → find es dir ≡ Some q → IsDir es q → leads_to_directory xs dir ≡ true
  directory_there dir q to is = elim (cases_Bool (length dir == 0)) [
    | inl z ↦ rw z refl
    | inr f ↦
        let some : 0 < q = under_root es 0 dir q f to in
        let body = is some in
        let d : Entry = some_in es (omega (arith, body.0)) in
        let there = entry_at es q d some body.0 in
        elim (cases_Bool (has_path xs dir)) [
          | inr none ↦ let clash = rw (to, there) at (nothing_at dir none) in cc
          | inl h ↦
              let one = some_passes (is_at dir) xs h in
              let x : Addition = some_in xs (omega (arith, one.1)) in
              let y : Addition = get_or xs one.0 x in
              let at = found_at dir one.0 x one.1 (one.2 x) in
              let same : Some at.0 ≡ Some q = sym at.2 ∙ to in
              let node : at.0 ≡ q = cc in
              let entry_is : Some at.1 ≡ Some (get_or es (q - 1) d) = sym at.3 ∙ (ap (entry es) node ∙ there) in
              let e_is : at.1 ≡ get_or es (q - 1) d = cc in
              let dir_body : is_dir_body y.body ≡ true =
              sym (ap (λ (c : Content). is_dir_body c.body) at.4) ∙ (ap (λ (e : Entry). is_dir_body e.body) e_is ∙ ap is_dir_body (body.1 d)) in
              rw f (list_any_at (is_directory_at dir) xs one.0 x one.1 (and_from (is_dir_body y.body) (same_path y.path dir) dir_body (one.2 x)))
        ]
  ]

  pub place_from : (x : Addition) → IsOk (room_for es x.path) → HasPlace xs x.path
  place_from x ok =
      let r = has_room es x ok in
      let dir : List (List ℕ) = parents_of x.path in
      let e : Entry = new_entry es x.path x.meta x.body in
      let says = room_says es e (directory_from es 0 dir) r.room in
      record {
        some = r.some;
        directory = directory_there dir e.parent r.leads (directory_is_dir es 0 dir e.parent says.0 (λ some. absurd (omega arith)));
        free = false_from_ne_true (has_path xs x.path) (λ h.
            let one = some_passes (is_at x.path) xs h in
            let d : Addition = some_in xs (omega (arith, one.1)) in
            let at = found_at x.path one.0 d one.1 (one.2 d) in
            let clash : Some at.0 ≡ None = sym at.2 ∙ r.free in cc);
      }
