-- The outline of a tree has that tree.
-- Letters: t the tree, es its entries, e the next of them; k the number of those before; xs the additions of these, x that of e; p a node.
use Rattle.std.proofs.Common.{◌≡◌, ℕ, zero, suc, List, [], ◌∷◌, ◌++◌, inl, inr, ◌+◌, ◌-◌, ◌<◌, ◌≤◌, length, get_or, take, refl, sym, ap, subst, ◌∙◌, arith, Ok}
use Rattle.std.proofs.{Common.IsOk, Common.take_all, Common.add-one, lemmas.Bool.cases_lt, lemmas.Bool.ne_eqb, lemmas.Grind.common_steps}
use Rattle.std.specs.List.{slice_get}
use Rattle.std.proofs.lemmas.List.{get_or_default, length_push, length-take-le, take_more, Sums.fold_push, Sums.fold_push}
use Rattle.adf_base.specs.declared.hash.Letters.TheVariants.{Ascii}
use Rattle.adf_tree.specs.{declared.entry.Body.TheVariants.Dir, declared.entry.Entry.Entry, Laws.IsNextEntry}
use Rattle.adf_tree.specs.Additions.{Addition, AllHaveRoom, entries_of_additions, with_addition}
use Rattle.adf_tree.specs.Tree.{IsDir, IsTree, Tree, added, directory_from, room_for}
use Rattle.adf_tree.proofs.{Lists.get_last, Lists.some_in, TreePrefixes.first_tree, TreePrefixes.is_next}
use Rattle.adf_edits.specs.Outline.{addition_for, tree_additions, outline_of, path_at, path_or_root, tree_of_outline, with_addition_for}
use Rattle.adf_edits.proofs.Additions.{room_more, tree_more}
use Rattle.adf_drafts.proofs.NextEntries.{directory_stays, has_room, new_is, new_leads}

-- the path of a node behind one addition more

get_before : (xs : List Addition) (x : Addition) (i : ℕ) → i < length xs → slice_get (xs ++ x ∷ []) i ≡ slice_get xs i
get_before [] x i lt = absurd (omega arith)
get_before (y ∷ ys) x zero lt = refl
get_before (y ∷ ys) x (suc i) lt = get_before ys x i (omega arith)

at_next : (xs : List Addition) (i : ℕ) → path_at xs (suc i) ≡ path_or_root (slice_get xs i)
at_next xs i = let back : suc i - 1 ≡ i = omega arith in rw (ne_eqb (suc i) 0 (omega arith), back) refl

path_stays : (xs : List Addition) (x : Addition) (p : ℕ) → p ≤ length xs → path_at (xs ++ x ∷ []) p ≡ path_at xs p
path_stays xs x zero le = refl
path_stays xs x (suc i) le = at_next (xs ++ x ∷ []) i ∙ (ap path_or_root (get_before xs x i (omega arith)) ∙ sym (at_next xs i))

path_new : (xs : List Addition) (x : Addition) → path_at (xs ++ x ∷ []) (suc (length xs)) ≡ x.path
path_new xs x = at_next (xs ++ x ∷ []) (length xs) ∙ ap path_or_root (get_last xs x)

-- the additions of the first k entries have their tree and have room, and the paths of directories lead to them
record IsFront (es : List Entry) (k : ℕ) (xs : List Addition) : Type 0 where
  is : tree_additions (take k es) ≡ xs
  count : length xs ≡ k
  entries : entries_of_additions xs ≡ take k es
  room : AllHaveRoom xs
  places : (p : ℕ) → p ≤ k → IsDir es p → directory_from (take k es) 0 (path_at xs p) ≡ Ok p

nothing_yet : (es : List Entry) → IsFront es 0 []
nothing_yet es = grind (arith, common_steps)

-- one more entry is added
module _ (es : List Entry) (k : ℕ) (xs : List Addition) (e : Entry) (t : IsTree es) (lt : k < length es) (here : get_or es k e ≡ e)
    (f : IsFront es k xs) where
  abbrev x : Addition
  x = addition_for xs e

  abbrev dir : List (List ℕ)
  dir = path_at xs e.parent

  to : directory_from (take k es) 0 dir ≡ Ok e.parent
  to = grind (arith, common_steps)

  next : IsNextEntry es k e
  next = subst (IsNextEntry es k) here (is_next es k e t lt)

  behind : take k es ++ e ∷ [] ≡ take (k + 1) es
  behind = ap (λ (y : Entry). take k es ++ y ∷ []) (sym here) ∙ sym (take_more es k e lt)

  tree : IsTree (take k es ++ e ∷ [])
  tree = subst IsTree (sym behind) (first_tree es (k + 1) t (omega arith))

  is_more : tree_additions (take (k + 1) es) ≡ xs ++ x ∷ []
  is_more = ap tree_additions (sym behind) ∙ (fold_push with_addition_for [] (take k es) e ∙ ap (λ ys. with_addition_for ys e) f.is)

  entries_more : entries_of_additions (xs ++ x ∷ []) ≡ take (k + 1) es
  entries_more =
      tree_more xs x ∙ (ap (λ (us : List Entry). with_addition us x) f.entries
      ∙ (ap (added (take k es)) (new_is (take k es) e dir next.may to) ∙ next.added))

  enough : IsOk (room_for (entries_of_additions xs) x.path)
  enough = rw (f.entries, has_room (take k es) e dir next.may to) refl

  place_more : (p : ℕ) → p ≤ k + 1 → IsDir es p → directory_from (take (k + 1) es) 0 (path_at (xs ++ x ∷ []) p) ≡ Ok p
  place_more p le is = elim (cases_lt k p) [
    | inr old ↦
        let stays : path_at (xs ++ x ∷ []) p ≡ path_at xs p = path_stays xs x p (omega (arith, f.count)) in
        ap (directory_from (take (k + 1) es) 0) stays
        ∙ subst (λ (us : List Entry). directory_from us 0 (path_at xs p) ≡ Ok p) behind
        (directory_stays (take k es) e 0 (path_at xs p) p tree (f.places p old is))
    | inl new ↦
        let last : p ≡ suc (length xs) = omega (arith, f.count) in
        let index : p - 1 ≡ k = omega arith in
        let long : length (take k es) + 1 ≡ p = omega (arith, length-take-le k es (omega arith)) in
        let body : e.body ≡ Dir = ap (λ (d : Entry). d.body) (sym (ap (λ i. get_or es i e) index ∙ here)) ∙ (is (omega arith)).1 e in
        let path : path_at (xs ++ x ∷ []) p ≡ x.path = ap (path_at (xs ++ x ∷ [])) last ∙ path_new xs x in
        ap (directory_from (take (k + 1) es) 0) path
        ∙ subst (λ (us : List Entry). directory_from us 0 x.path ≡ Ok p) behind
        (subst (λ m. directory_from (take k es ++ e ∷ []) 0 x.path ≡ Ok m) long (new_leads (take k es) e dir next.may to tree body))
  ]

  front_more : IsFront es (k + 1) (xs ++ x ∷ [])
  front_more = search (arith, is_more, length_push, entries_more, room_more, enough, place_more)

front : (es : List Entry) (k : ℕ) → IsTree es → k ≤ length es → IsFront es k (tree_additions (take k es))
front es zero t le = nothing_yet es
front es (suc k) t le =
    let d : Entry = some_in es (omega arith) in
    let e : Entry = get_or es k d in
    let here : get_or es k e ≡ e = get_or_default es k e d (omega arith) in
    let xs : List Addition = tree_additions (take k es) in
    let more : IsFront es (k + 1) (xs ++ addition_for xs e ∷ []) = front_more es k xs e t (omega arith) here (front es k t (omega arith)) in
    let whole : IsFront es (k + 1) (tree_additions (take (k + 1) es)) = subst (IsFront es (k + 1)) (sym more.is) more in
    subst (λ m. IsFront es m (tree_additions (take m es))) (add-one k) whole

all : (es : List Entry) → IsTree es → IsFront es (length es) (tree_additions es)
all es t = subst (λ us. IsFront es (length es) (tree_additions us)) (take_all (length es) es (omega arith)) (front es (length es) t (omega arith))

pub outline_tree : (t : Tree) → t.letters ≡ Ascii → IsTree t.entries → tree_of_outline (outline_of t) ≡ t
outline_tree t letters is =
    let same : entries_of_additions (tree_additions t.entries) ≡ t.entries =
    (all t.entries is).entries ∙ take_all (length t.entries) t.entries (omega arith) in
    λ i. record { kind = t.kind; letters = sym letters i; label = t.label; stamps = t.stamps; entries = same i }

pub outline_room : (t : Tree) → IsTree t.entries → AllHaveRoom (outline_of t).additions
outline_room t is = (all t.entries is).room
