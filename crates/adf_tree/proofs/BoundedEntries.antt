-- The entries of additions that are within their bounds are within theirs.
-- Letters: l the letters whose case is ignored; e an entry, es entries; x an addition, xs additions; n a number of an entry.
use Rattle.std.proofs.Common.{◌≡◌, ◌<◌, ◌-◌, ◌+◌, ℕ, true, List, [], ◌∷◌, arith, drop, fold, length, map, take}
use Rattle.std.specs.List.{All}
use Rattle.std.proofs.lemmas.List.Elements.{All-append, All-cons, All-drop, All-head, All-map, All-nil, All-tail, All-take, All-weaker}
use Rattle.adf_base.specs.declared.hash.Letters.{Letters, TheVariants.Ascii}
use Rattle.adf_names.specs.{Meta.IsBoundedMeta, PathTexts.IsName, Texts.is_name}
use Rattle.adf_tree.specs.{Additions.Addition, Additions.entries_of_additions_by, Additions.with_addition_by, Bounds.IsBoundedEntry, Bounds.IsData, Tree.added}
use Rattle.adf_tree.specs.{Tree.added_by, Tree.last_of, Tree.new_entry_by, Tree.place_by, Tree.rank_by, Tree.moved_entry, declared.entry.Entry.Entry}

-- the fields of an addition are within their bounds
pub record IsBoundedAddition (x : Addition) : Type 0 where
  pub name : is_name (last_of x.path) ≡ true
  pub meta : IsBoundedMeta x.meta
  pub body : IsData x.body

bounded_renumbered : (n : ℕ) (e : Entry) → IsBoundedEntry e → IsBoundedEntry (moved_entry n e)
bounded_renumbered n e is = record { name = is.name; meta = is.meta; body = is.body }

-- and so are those with one more
pub bounded_added_by : (l : Letters) (es : List Entry) (e : Entry) → All IsBoundedEntry es → IsBoundedEntry e → All IsBoundedEntry (added_by l es e)
bounded_added_by l es e are is =
    let i : ℕ = place_by l es (rank_by l e) in
    let rest : List Entry = drop i es in
    All-append IsBoundedEntry (take i es) (e ∷ map (moved_entry (i + 1)) rest) (All-take IsBoundedEntry i es are)
    (All-cons IsBoundedEntry e (map (moved_entry (i + 1)) rest) is
    (All-map IsBoundedEntry (moved_entry (i + 1)) rest
    (All-weaker IsBoundedEntry (λ y. IsBoundedEntry (moved_entry (i + 1) y)) (bounded_renumbered (i + 1)) rest
    (All-drop IsBoundedEntry i es are))))

bounded_new : (l : Letters) (es : List Entry) (x : Addition) → IsBoundedAddition x → IsBoundedEntry (new_entry_by l es x.path x.meta x.body)
bounded_new l es x is = record { name = is.name; meta = is.meta; body = is.body }

bounded_grown : (l : Letters) (es : List Entry) (xs : List Addition) → All IsBoundedEntry es → All IsBoundedAddition xs
    → All IsBoundedEntry (fold (with_addition_by l) es xs)
bounded_grown l es [] are new = are
bounded_grown l es (x ∷ xs) are new = search (arith, bounded_added_by, bounded_new, All-head, All-tail, bounded_grown l (with_addition_by l es x) xs)

pub bounded_additions_by : (l : Letters) (xs : List Addition) → All IsBoundedAddition xs → All IsBoundedEntry (entries_of_additions_by l xs)
bounded_additions_by l xs new = bounded_grown l [] xs (All-nil IsBoundedEntry) new

-- the last name of a path is a name
pub last_is_name : (path : List (List ℕ)) → 0 < length path → All IsName path → is_name (last_of path) ≡ true
last_is_name path some names = (names (length path - 1) [] (omega arith)).allowed

-- by ASCII letters

pub bounded_added : (es : List Entry) (e : Entry) → All IsBoundedEntry es → IsBoundedEntry e → All IsBoundedEntry (added es e)
bounded_added = bounded_added_by Ascii
