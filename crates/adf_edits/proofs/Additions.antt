-- Additions that all have room, and the additions of a tree. xs are additions, x is the next one, es the entries of a tree.
use Rattle.std.proofs.Common.{◌≡◌, ◌<◌, ◌≤◌, ◌++◌, ◌∷◌, ◌+◌, ◌-◌, ℕ, List, [], Some, Option, length, get_or, take, arith, ap, sym, refl}
use Rattle.std.proofs.Common.{subst, ◌∙◌, IsOk, zero, suc}
use Rattle.std.proofs.{Math.Seq.take-append_seam, Math.Seq.get_or-append_seam, Math.ListN.get_or-append, lemmas.Bool.cases_Bool, lemmas.Bool.eqb-true}
use Rattle.std.proofs.{lemmas.Bool.ne_eqb, lemmas.Bool.Decides.nat_tests, lemmas.List.length-append, lemmas.List.take_all, lemmas.List.take_more}
use Rattle.std.proofs.{lemmas.List.Sums.fold_push, lemmas.Option.get_or_from_slice_get, lemmas.Option.slice_get-get_or, lemmas.Grind.common_steps}
use Rattle.std.specs.{List.slice_get, Option.IsSome}
use Rattle.adf_base.specs.declared.hash.Letters.{Letters, TheVariants.Ascii, TheVariants.Ascii}
use Rattle.adf_tree.proofs.Lists.{some_in}
use Rattle.adf_tree.specs.declared.entry.Entry.{Entry}
use Rattle.adf_tree.specs.Additions.{Addition, AllHaveRoom, AllHaveRoomBy, entries_of_additions, entries_of_additions_by, with_addition, with_addition_by}
use Rattle.adf_tree.specs.Tree.{entry, room_for, room_for_by, IsTree, Tree}
use Rattle.adf_edits.specs.Outline.{OutlineValue, tree_additions, tree_of_outline_by, with_addition_in, with_addition_for, with_first}

-- the tree of one addition more
pub tree_more_by : (ls : Letters) (xs : List Addition) (x : Addition)
    → entries_of_additions_by ls (xs ++ x ∷ []) ≡ with_addition_by ls (entries_of_additions_by ls xs) x
tree_more_by ls xs x = fold_push (with_addition_by ls) [] xs x

pub tree_more : (xs : List Addition) (x : Addition) → entries_of_additions (xs ++ x ∷ []) ≡ with_addition (entries_of_additions xs) x
tree_more = tree_more_by Ascii

take_front : (xs ys : List Addition) (i : ℕ) → i ≤ length xs → take i (xs ++ ys) ≡ take i xs
take_front xs ys zero le = refl
take_front [] ys (suc i) le = absurd (omega arith)
take_front (x ∷ xs) ys (suc i) le = ap (λ zs. x ∷ zs) (take_front xs ys i (omega arith))

-- one addition more has room too
pub room_more_by : (ls : Letters) (xs : List Addition) (x : Addition) → AllHaveRoomBy ls xs
    → IsOk (room_for_by ls (entries_of_additions_by ls xs) x.path) → AllHaveRoomBy ls (xs ++ x ∷ [])
room_more_by ls xs x h ok =
    grind (arith, cases_Bool, eqb-true, get_or-append_seam, nat_tests, take_front, get_or-append, take-append_seam xs (x ∷ []), length-append xs (x ∷ []))

pub room_more : (xs : List Addition) (x : Addition) → AllHaveRoom xs → IsOk (room_for (entries_of_additions xs) x.path)
    → AllHaveRoom (xs ++ x ∷ [])
room_more = room_more_by Ascii

-- the tree of an outline, addition by addition

pub grown : (ls : Letters) (o : OutlineValue) (xs : List Addition) (x : Addition) (t u : Tree) → t ≡ tree_of_outline_by ls (with_first o xs)
    → u ≡ with_addition_in t x → u ≡ tree_of_outline_by ls (with_first o (xs ++ x ∷ []))
grown ls o xs x t u is new = new ∙ (ap (λ (v : Tree). with_addition_in v x) is
    ∙ ap (λ es. record { kind = o.kind; letters = ls; label = o.label; stamps = o.stamps; entries = es }) (sym (tree_more_by ls xs x)))

pub room_grown : (ls : Letters) (o : OutlineValue) (xs : List Addition) (x : Addition) (t : Tree) → t ≡ tree_of_outline_by ls (with_first o xs)
    → AllHaveRoomBy ls xs → IsOk (room_for_by t.letters t.entries x.path) → AllHaveRoomBy ls (xs ++ x ∷ [])
room_grown ls o xs x t is room ok = grind (arith, common_steps, room_more_by)

-- an entry by its number

entry_is : (es : List Entry) (i : ℕ) → entry es (i + 1) ≡ slice_get es i
entry_is es i = let back : i + 1 - 1 ≡ i = omega arith in rw (ne_eqb (i + 1) 0 (omega arith), back) refl

at_entry : (es : List Entry) (i : ℕ) (e : Entry) → entry es (i + 1) ≡ Some e → get_or es i e ≡ e
at_entry es i e is = get_or_from_slice_get es i e e (sym (entry_is es i) ∙ is)

pub some_entry : (es : List Entry) (i : ℕ) (o : Option Entry) → i < length es → o ≡ entry es (i + 1) → IsSome o
some_entry es i o lt is =
    let d : Entry = some_in es (omega arith) in
    let some : o ≡ Some (get_or es i d) = is ∙ (entry_is es i ∙ slice_get-get_or es i d lt) in
    rw some refl

-- the additions of one entry more
pub additions_more : (es : List Entry) (i : ℕ) (e : Entry) → i < length es → entry es (i + 1) ≡ Some e
    → tree_additions (take (i + 1) es) ≡ with_addition_for (tree_additions (take i es)) e
additions_more es i e lt is = grind (arith, common_steps, at_entry, take_more es i e lt, fold_push with_addition_for [] (take i es) e)

pub entry_step : (es : List Entry) (i : ℕ) (e : Entry) (xs ys : List Addition) → i < length es → entry es (i + 1) ≡ Some e
    → xs ≡ tree_additions (take i es) → length xs ≡ i → ys ≡ with_addition_for xs e
    → record { additions : ys ≡ tree_additions (take (i + 1) es); count : length ys ≡ i + 1 }
entry_step es i e xs ys lt is were count are = grind (arith, common_steps, additions_more, length-append)

-- the parent of an entry comes before it
pub parent_early : (es : List Entry) (i : ℕ) (e : Entry) → IsTree es → i < length es → entry es (i + 1) ≡ Some e → e.parent ≤ i
parent_early es i e t lt is = subst (λ (x : Entry). x.parent ≤ i) (at_entry es i e is) (t.parents i e lt)

-- the additions of all entries
pub additions_all : (es : List Entry) (i : ℕ) → length es ≤ i → tree_additions (take i es) ≡ tree_additions es
additions_all es i le = ap tree_additions (take_all i es le)
