-- The names of an entry from the root on, gathered from the rows of the entry and its parents.
use Rattle.std.proofs.Common.{◌≡◌, ◌-◌, ◌<◌, ◌≤◌, ◌++◌, ◌∙◌, ℕ, zero, suc, List, [], ◌∷◌, Option, Some, None, refl, sym, ap, arith, append_assoc, get_or}
use Rattle.std.specs.Prelude.{option_map, reverse}
use Rattle.std.proofs.lemmas.List.{reverse-append}
use Rattle.adf_tree.specs.{declared.entry.Entry.Entry, Paths.names_of, Tree.IsTree, Tree.entry}
use Rattle.adf_tree.proofs.{EntryPaths.names_next, PathContents.entry_says, PathContents.names_past}
use Rattle.adf_volume.specs.{Rows.row_of_entry, declared.row.Row.Row}

-- the entry of which a row tells
pub told_entry : (r : Row) (o : Option Entry) → Some r ≡ option_map row_of_entry o → (e : Entry) × (o ≡ Some e) × (r ≡ row_of_entry e)
told_entry r None h = cc
told_entry r (Some e) h = (e, refl, cc)

told_none : (o : Option Entry) → ◌≡◌ {A = Option Row} None (option_map row_of_entry o) → o ≡ None
told_none None h = refl
told_none (Some e) h = cc

-- the parent of an entry has a smaller number
pub parent_smaller : (es : List Entry) (n : ℕ) (r : Row) → IsTree es → Some r ≡ option_map row_of_entry (entry es n) → r.parent < n
parent_smaller es n r t h =
    let told = told_entry r (entry es n) h in
    let e = told.0 in
    let says = entry_says es n e told.1 in
    let small : (get_or es (n - 1) e).parent ≤ n - 1 = t.parents (n - 1) e (omega (arith, says.0, says.1)) in
    let same : (get_or es (n - 1) e).parent ≡ r.parent = ap (λ x. x.parent) (says.2 e) ∙ sym (ap (λ (x : Row). x.parent) told.2) in
    omega (arith, small, same, says.0)

-- the names of the parent, behind which the name of the entry is gathered
pub gathered_more : (es : List Entry) (names path : List (List ℕ)) (n : ℕ) (r : Row) → IsTree es → Some r ≡ option_map row_of_entry (entry es n)
    → names ≡ names_of es n ++ reverse path → names ≡ names_of es r.parent ++ reverse (path ++ r.name ∷ [])
gathered_more es names path n r t h e =
    let told = told_entry r (entry es n) h in
    let parent : r.parent ≡ told.0.parent = ap (λ (x : Row). x.parent) told.2 in
    let name : r.name ≡ told.0.name = ap (λ (x : Row). x.name) told.2 in
    rw (e, names_next es n told.0 t told.1, ← parent, ← name, append_assoc, reverse-append)

-- what is no entry has no names
names_none : (es : List Entry) (n : ℕ) → entry es n ≡ None → names_of es n ≡ []
names_none es zero h = refl
names_none es (suc m) h = ap (names_past es m) h

pub gathered_all : (es : List Entry) (names path : List (List ℕ)) (n : ℕ) → ◌≡◌ {A = Option Row} None (option_map row_of_entry (entry es n))
    → names ≡ names_of es n ++ reverse path
    → reverse path ≡ names
gathered_all es names path n h e = rw (e, names_none es n (told_none (entry es n) h))
