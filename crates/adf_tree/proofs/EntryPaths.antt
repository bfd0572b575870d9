-- Each entry is found under its path, and under its names as written.
-- Letters: l the letters whose case is ignored.
use Rattle.std.proofs.Common.{◌≡◌, ℕ, ◌+◌, ◌-◌, ◌≤◌, List, [], ◌∷◌, length, get_or, Some, arith, sym, refl, ◌∙◌, ap, zero, suc, ◌++◌, map}
use Rattle.adf_base.specs.declared.hash.Letters.{Letters}
use Rattle.adf_tree.specs.{declared.entry.Entry.Entry, Paths.path_in_by, Paths.path_of_by, Paths.names_of, Tree.find_by, Tree.IsTreeBy, Tree.entry}
use Rattle.adf_names.specs.Texts.{uppers_by}
use Rattle.adf_tree.proofs.{ChildLookup.upper_twice, ChildLookup.child_is_by, ChildLookup.is_child_from_by, Lists.map_agree, Lists.some_in}
use Rattle.adf_tree.proofs.PathContents.{entry_at, find_snoc_by, path_past, entry_says, find_uppers_by, names_past, names_fuel, raised_names}
use mathlib.Core.List.{map-map}

pub uppers_twice : (l : Letters) (name : List ℕ) → uppers_by l (uppers_by l name) ≡ uppers_by l name
uppers_twice l [] = refl
uppers_twice l (c ∷ cs) = rw (upper_twice l c, uppers_twice l cs)

found_in : (l : Letters) (es : List Entry) (f n : ℕ) → IsTreeBy l es → n ≤ length es → n ≤ f → find_by l es (path_in_by l es f n) ≡ Some n
found_in l es zero n t le small = let z : 0 ≡ n = omega arith in ap Some z
found_in l es (suc f) zero t le small = refl
found_in l es (suc f) (suc m) t le small =
    let n : ℕ = suc m in
    let d : Entry = some_in es (omega arith) in
    let e : Entry = get_or es (n - 1) d in
    let up = t.parents (n - 1) d (omega arith) in
    let parents : List (List ℕ) = path_in_by l es f e.parent in
    let back : n - 1 + 1 ≡ n = omega arith in
    ap (λ o. find_by l es (path_past l es f o)) (entry_at es n d (omega arith) le)
    ∙ rw (
      find_snoc_by l es 0 e.parent parents (uppers_by l e.name) (found_in l es f e.parent t (omega arith) (omega arith)),
      child_is_by l es e.parent (uppers_by l e.name) (n - 1) d t (omega arith)
          (is_child_from_by l e.parent (uppers_by l e.name) e refl (sym (uppers_twice l e.name))),
      back,
    )

pub path_found : (l : Letters) (es : List Entry) (n : ℕ) → IsTreeBy l es → n ≤ length es → find_by l es (path_of_by l es n) ≡ Some n
path_found l es n t le = found_in l es n n t le (omega arith)

map_uppers_twice : (l : Letters) (path : List (List ℕ)) → map (uppers_by l) (map (uppers_by l) path) ≡ map (uppers_by l) path
map_uppers_twice l path =
    map-map (uppers_by l) (uppers_by l) path
    ∙ map_agree (λ name. uppers_by l (uppers_by l name)) (uppers_by l) path (λ k d lt. uppers_twice l (get_or path k d))

pub names_found : (l : Letters) (es : List Entry) (n : ℕ) → IsTreeBy l es → n ≤ length es → find_by l es (names_of es n) ≡ Some n
names_found l es n t le =
    let names = names_of es n in
    let raised : map (uppers_by l) names ≡ path_of_by l es n = raised_names l es n n in
    find_uppers_by l es 0 names (path_of_by l es n) (rw (← raised) (sym (map_uppers_twice l names))) ∙ path_found l es n t le

-- the names of an entry are those of its parent, and its own
pub names_next : {l : Letters} (es : List Entry) (n : ℕ) (e : Entry) → IsTreeBy l es → entry es n ≡ Some e
    → names_of es n ≡ names_of es e.parent ++ e.name ∷ []
names_next {l} es zero e t h = cc
names_next {l} es (suc m) e t h =
    let says = entry_says es (suc m) e h in
    let small = rw (says.2 e) at (t.parents (suc m - 1) e (omega (arith, says.0, says.1))) in
    ap (names_past es m) h ∙ ap (λ names. names ++ e.name ∷ []) (names_fuel l es m e.parent e.parent t (omega (arith, small)) (omega arith))
