-- The set of names in the last chain of a tree.
-- Letters: l the letters whose case is ignored.
use Rattle.std.proofs.Common.{◌≡◌, ℕ, List, [], ◌∷◌, length, get_or, true, false, Option, Some, None, Result, Ok, Err, arith, nat_lt, sym, refl, ◌∙◌}
use Rattle.std.specs.{List.list_any, List.Sorted.IsPartitionPoint, Option.is_some, Result.is_err, Result.OnOk}
use Rattle.std.proofs.lemmas.Bool.{and_parts, eqb-true, le-ltb, ltb-true}
use Rattle.std.proofs.{lemmas.List.Sums.position_or_len_is, lemmas.List.Folds.list_any_at, lemmas.List.Folds.list_any_none, lemmas.Grind.common_steps}
use Rattle.adf_base.specs.{Hash.slot_by, declared.hash.Letters.Letters}
use Rattle.adf_tree.specs.{declared.entry.Entry.Entry, declared.last_chain.LastChain.LastChain, NameSet.has, LastChain.knows, LastChain.IsOfBy}
use Rattle.adf_names.specs.Texts.{uppers_by}
use Rattle.adf_tree.specs.Tree.{place_by, rank_by, rank_of, is_child_by, child_by}
use Rattle.adf_tree.proofs.ChildLookup.{child_not_before_by, found_is_by, none_is}

-- what is said of an Ok
pub at_ok : {X Y P : Type 0} (r : Result X Y) → is_err r ≡ false → OnOk r P → P
at_ok (Ok x) h p = p
at_ok (Err y) h p = cc

-- a child is found where some entry is one
any_of : (l : Letters) (es : List Entry) (p : ℕ) (name : List ℕ) (m : ℕ) → child_by l es p name ≡ Some m → list_any (is_child_by l p name) es ≡ true
any_of l [] p name m h = cc
any_of l (e ∷ es) p name m h = grind (arith, common_steps, list_any_at, found_is_by l (e ∷ es) p name m e h)

any_is : (l : Letters) (es : List Entry) (p : ℕ) (name : List ℕ) (o : Option ℕ) → child_by l es p name ≡ o
    → list_any (is_child_by l p name) es ≡ is_some o
any_is l es p name None h = list_any_none (is_child_by l p name) es (λ k d lt. none_is l es p name k d h lt)
any_is l es p name (Some m) h = any_of l es p name m h

pub any_child : (l : Letters) (es : List Entry) (p : ℕ) (name : List ℕ) → list_any (is_child_by l p name) es ≡ is_some (child_by l es p name)
any_child l es p name = any_is l es p name (child_by l es p name) refl

-- nothing is known
pub forgotten : (l : Letters) (c : LastChain) (es : List Entry) → c.is_known ≡ false → IsOfBy l c es
forgotten l c es h = record { names = λ name t s. cc }

-- past all of lesser pairs
pub place_past : (l : Letters) (es : List Entry) (r from : ℕ)
    → IsPartitionPoint (λ e. nat_lt (rank_by l e) r ≡ true) (λ e. nat_lt (rank_by l e) r ≡ false) es from
    → from ≡ length es → place_by l es r ≡ length es
place_past l [] r from parted all = refl
place_past l (e ∷ es) r from parted all =
    position_or_len_is (λ x. nat_lt r (rank_by l x)) (e ∷ es) (length (e ∷ es)) e (omega arith)
    (λ k lt. let x = get_or (e ∷ es) k e in
    le-ltb r (rank_by l x) (omega (arith, ltb-true (rank_by l x) r (parted.0 k e (omega arith) (omega arith)))))
    (λ lt. absurd (omega arith))

-- a chain that begins
pub begun : (l : Letters) (c : LastChain) (es : List Entry) (parent s from : ℕ) → c.parent ≡ parent → c.slot ≡ s
    → ((x : List ℕ) → has c.names x ≡ false)
    → IsPartitionPoint (λ e. nat_lt (rank_by l e) (rank_of parent s) ≡ true) (λ e. nat_lt (rank_by l e) (rank_of parent s) ≡ false) es from
    → from ≡ length es
    → IsOfBy l c es
begun l c es parent s from p q none parted all = record {
  names = λ name t h.
      rw (none (uppers_by l name), p)
      (sym (list_any_none (is_child_by l parent name) es (λ k d lt.
      child_not_before_by l es parent name s from (sym q ∙ sym h) parted k d (omega arith))));
}

-- what is known tells whether there is a child
pub known_child : (l : Letters) (c : LastChain) (es : List Entry) (p s : ℕ) (name : List ℕ) → IsOfBy l c es → s ≡ slot_by l name → knows c p s ≡ true
    → has c.names (uppers_by l name) ≡ is_some (child_by l es p name)
known_child l c es p s name of same h = grind (arith, common_steps, and_parts, eqb-true, any_child)
