-- Additions have at most one tree.
-- Letters: l the letters whose case is ignored.
use Rattle.std.proofs.Common.{◌≡◌, ℕ, ◌-◌, ◌≤◌, inl, inr, List, [], ◌∷◌, ◌++◌, length, get_or, map, true, false, Bool, cond, arith, sym, refl, ◌∙◌, ap, zero}
use Rattle.std.proofs.{Common.suc, lemmas.Bool.cases_Bool, lemmas.List.Sorted.IsNonDecreasingBy-drop, lemmas.Grind.common_steps}
use Rattle.std.specs.List.{filter, All, Sorted.IsNonDecreasingBy}
use Rattle.std.proofs.lemmas.List.{append_assoc, append_cancel_left, map-append, get_or_append_left, get_or_at, length-append, drop_at}
use Rattle.std.proofs.lemmas.List.Elements.{filter-append, filter_passes, All-filter}
use Rattle.adf_base.specs.{declared.hash.Letters.Letters, Hash.slot_by}
use Rattle.adf_tree.specs.{declared.entry.Entry.Entry, Chain.chain_by, Chain.in_chain_by, Paths.entry_content, Paths.path_in_by, Paths.path_of_by}
use Rattle.adf_tree.specs.{Paths.Content, Tree.rank_by, Tree.rank_of, Tree.IsTreeBy, Additions.Addition, Additions.IsTreeOfBy}
use Rattle.adf_tree.proofs.{TreeInvariant.slot_small_by, ChainOrder.chain_rank, ChainMembers.in_chain_from, EntryPaths.path_found}
use Rattle.adf_tree.proofs.PathContents.{entry_at, path_past}

-- a path depends on the entries up to its own
pub path_in_front : (l : Letters) (front rest : List Entry) (d : Entry) (f n : ℕ) → IsTreeBy l (front ++ rest) → n ≤ length front
    → path_in_by l (front ++ rest) f n ≡ path_in_by l front f n
path_in_front l front rest d zero n t le = refl
path_in_front l front rest d (suc f) zero t le = refl
path_in_front l front rest d (suc f) (suc m) t le =
    let n : ℕ = suc m in
    let long = length-append front rest in
    let same = get_or_append_left front rest d (n - 1) (omega arith) in
    let early = rw same at (t.parents (n - 1) d (omega arith)) in
    ap (path_past l (front ++ rest) f) (entry_at (front ++ rest) n d (omega arith) (omega arith))
    ∙ (rw (same, path_in_front l front rest d f (get_or front (n - 1) d).parent t (omega arith)) refl
    ∙ sym (ap (path_past l front f) (entry_at front n d (omega arith) le)))

-- an entry is what it has and where
rebuilt : (e f : Entry) → e.parent ≡ f.parent → entry_content e ≡ entry_content f → e ≡ f
rebuilt e f p c = grind (arith, common_steps)

-- what is known of the first entry of a list, where a chain's first one is known
pub record IsFirst (l : Letters) (y : Entry) (p s : ℕ) (c : Content) : Type 0 where
  pub early : rank_by l y ≤ rank_of p s
  pub same : in_chain_by l p s y ≡ true → entry_content y ≡ c

early_one : (l : Letters) (y : Entry) (p s : ℕ) (xs : List Entry) (c : Content) (cs : List Content) → All (λ w. rank_by l y ≤ rank_by l w) xs
    → All (λ w. in_chain_by l p s w ≡ true) xs → c ∷ cs ≡ map entry_content xs → rank_by l y ≤ rank_of p s
early_one l y p s [] c cs later in_it h = cc
early_one l y p s (w ∷ ws) c cs later in_it h = omega (arith, chain_rank l p s w (in_it 0 w (omega arith)), later 0 w (omega arith))

first_in : (l : Letters) (y : Entry) (ys : List Entry) (p s : ℕ) (c : Content) (cs : List Content) → IsNonDecreasingBy (rank_by l) (y ∷ ys)
    → c ∷ cs ≡ map entry_content (filter (in_chain_by l p s) (y ∷ ys)) → IsFirst l y p s c
first_in l y ys p s c cs up h =
    let q : Entry → Bool = in_chain_by l p s in
    elim (cases_Bool (in_chain_by l p s y)) [
      | inl t ↦
          let g = rw t at h in
          record { early = omega (arith, chain_rank l p s y t); same = λ _. cc }
      | inr f ↦
          let g = rw f at h in
          let later : All (λ w. rank_by l y ≤ rank_by l w) ys = λ k d lt. up 0 (suc k) d (omega arith) (omega arith) in
          record {
            early = early_one l y p s (filter q ys) c cs (All-filter q (λ w. rank_by l y ≤ rank_by l w) ys later) (filter_passes q ys) g;
            same = λ t. let clash : true ≡ false = sym t ∙ f in cc;
          }
    ]

back_sorted : (l : Letters) (front back : List Entry) → IsNonDecreasingBy (rank_by l) (front ++ back) → IsNonDecreasingBy (rank_by l) back
back_sorted l front back up =
    rw (drop_at front back (length front) refl) at (IsNonDecreasingBy-drop (rank_by l) (length front) (front ++ back) up)

-- the chain of the next entry has the same contents in both trees
same_chain : (l : Letters) (front r other : List Entry) (e : Entry) (a : List Addition) → IsTreeOfBy l (front ++ e ∷ r) a
    → IsTreeOfBy l (front ++ other) a
    → entry_content e ∷ map entry_content (filter (in_chain_by l e.parent (slot_by l e.name)) r)
    ≡ map entry_content (filter (in_chain_by l e.parent (slot_by l e.name)) other)
same_chain l front r other e a t u =
    let es : List Entry = front ++ e ∷ r in
    let os : List Entry = front ++ other in
    let p : ℕ = e.parent in
    let s : ℕ = slot_by l e.name in
    let q : Entry → Bool = in_chain_by l p s in
    let long = length-append front (e ∷ r) in
    let long_too = length-append front other in
    let early : e.parent ≤ length front = rw (get_or_at front e r e (length front) refl) at (t.tree.parents (length front) e (omega arith)) in
    let dir : path_of_by l os p ≡ path_of_by l es p =
    path_in_front l front other e p p u.tree early ∙ sym (path_in_front l front (e ∷ r) e p p t.tree early) in
    let leads_too = rw dir at (path_found l os p u.tree (omega arith)) in
    let both : map entry_content (chain_by l es p s) ≡ map entry_content (chain_by l os p s) =
    t.chains (path_of_by l es p) p s (path_found l es p t.tree (omega arith)) ∙ sym (u.chains (path_of_by l es p) p s leads_too) in
    let split : (back : List Entry) → map entry_content (chain_by l (front ++ back) p s) ≡ map entry_content (filter q front) ++ map entry_content
    (filter q back) =
    λ back. ap (map entry_content) (filter-append q front back) ∙ map-append entry_content (filter q front) (filter q back) in
    let mine : filter q (e ∷ r) ≡ e ∷ filter q r = ap (λ b. cond b (e ∷ filter q r) (filter q r)) (in_chain_from l p s e refl refl) in
    ap (map entry_content) (sym mine)
    ∙ append_cancel_left (map entry_content (filter q front)) (map entry_content (filter q (e ∷ r))) (map entry_content (filter q other))
    (sym (split (e ∷ r)) ∙ (both ∙ split other))

next_is : (l : Letters) (front r ys : List Entry) (e y : Entry) (a : List Addition) → IsTreeOfBy l (front ++ e ∷ r) a
    → IsTreeOfBy l (front ++ y ∷ ys) a
    → IsFirst l y e.parent (slot_by l e.name) (entry_content e)
next_is l front r ys e y a t u =
    first_in l y ys e.parent (slot_by l e.name) (entry_content e) (map entry_content (filter (in_chain_by l e.parent (slot_by l e.name)) r))
    (back_sorted l front (y ∷ ys) u.tree.order) (same_chain l front r (y ∷ ys) e a t u)

-- so the next entries are one
next_same : (l : Letters) (front r ys : List Entry) (e y : Entry) (a : List Addition) → IsTreeOfBy l (front ++ e ∷ r) a
    → IsTreeOfBy l (front ++ y ∷ ys) a → e ≡ y
next_same l front r ys e y a t u =
    let one = next_is l front r ys e y a t u in
    let two = next_is l front ys r y e a u t in
    let small = slot_small_by l e.name in
    let small_too = slot_small_by l y.name in
    let p : y.parent ≡ e.parent = omega (arith, one.early, two.early) in
    let s : slot_by l y.name ≡ slot_by l e.name = omega (arith, one.early, two.early) in
    rebuilt e y (sym p) (sym (one.same (in_chain_from l e.parent (slot_by l e.name) y p s)))

none_left : (l : Letters) (front r : List Entry) (e : Entry) (a : List Addition) → IsTreeOfBy l (front ++ e ∷ r) a → IsTreeOfBy l (front ++ []) a → ⊥
none_left l front r e a t u =
    let h : entry_content e ∷ map entry_content (filter (in_chain_by l e.parent (slot_by l e.name)) r) ≡ [] = same_chain l front r [] e a t u in
    cc

same_rest : (l : Letters) (front r s : List Entry) (a : List Addition) → IsTreeOfBy l (front ++ r) a → IsTreeOfBy l (front ++ s) a → r ≡ s
same_rest l front [] [] a t u = refl
same_rest l front [] (y ∷ ys) a t u = absurd (none_left l front ys y a u t)
same_rest l front (e ∷ r) [] a t u = absurd (none_left l front r e a t u)
same_rest l front (e ∷ r) (y ∷ ys) a t u =
    let one : e ≡ y = next_same l front r ys e y a t u in
    let t_on = rw (← append_assoc front (e ∷ []) r) at t in
    let u_on = rw (← one, ← append_assoc front (e ∷ []) ys) at u in
    ap (λ xs. e ∷ xs) (same_rest l (front ++ e ∷ []) r ys a t_on u_on) ∙ ap (λ x. x ∷ ys) one

-- two trees of the same additions are one
pub one_tree : {l : Letters} (es others : List Entry) (a : List Addition) → IsTreeOfBy l es a → IsTreeOfBy l others a → es ≡ others
one_tree {l} es others a t u = same_rest l [] es others a t u
