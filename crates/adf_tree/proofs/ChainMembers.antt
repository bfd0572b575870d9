-- The members of chains: each entry is in the chain of its parent and slot, and in no other.
-- Letters: l the letters whose case is ignored.
use Rattle.std.proofs.Common.{◌≡◌, ℕ, ◌+◌, ◌-◌, ◌<◌, ◌≤◌, List, length, get_or, true, Some, arith, sym, ◌==◌, ◌↔◌}
use Rattle.std.specs.List.{Contains}
use Rattle.std.proofs.{lemmas.Bool.and_from, lemmas.Bool.eq-eqb, lemmas.Grind.common_steps}
use Rattle.std.proofs.lemmas.List.Elements.{Contains-get_or, filter_passes}
use Rattle.adf_base.specs.{declared.hash.Letters.Letters, Hash.slot_by}
use Rattle.adf_tree.specs.{declared.entry.Entry.Entry, Chain.in_chain_by, Chain.chain_by, Tree.child_by, Tree.IsTreeBy, Laws.IsChildBy, Laws.IsInBy}
use Rattle.adf_tree.proofs.{ChainOrder.in_chain_rank_by, PathContents.entry_at, Lists.contains_filter}
use Rattle.adf_tree.proofs.ChildLookup.{same_slot_by, found_is_by, child_says_by, child_is_by, is_child_from_by}

pub in_chain_from : (l : Letters) (p s : ℕ) (e : Entry) → e.parent ≡ p → slot_by l e.name ≡ s → in_chain_by l p s e ≡ true
in_chain_from l p s e a b = and_from (e.parent == p) (slot_by l e.name == s) (eq-eqb e.parent p a) (eq-eqb (slot_by l e.name) s b)

-- an entry is a member of the chain of its parent and slot
pub in_its_chain : (l : Letters) (es : List Entry) (e : Entry) (p s : ℕ) → Contains es e → e.parent ≡ p → slot_by l e.name ≡ s
    → Contains (chain_by l es p s) e
in_its_chain l es e p s h a b = contains_filter (in_chain_by l p s) es e h (in_chain_from l p s e a b)

-- and of no other
pub in_no_other : (l : Letters) (es : List Entry) (e : Entry) (p s : ℕ) → Contains (chain_by l es p s) e → (p ≡ e.parent) × (s ≡ slot_by l e.name)
in_no_other l es e p s h = grind (arith, common_steps, in_chain_rank_by, filter_passes)

pub one_chain : (l : Letters) (es : List Entry) (e : Entry) → Contains es e → (p s : ℕ) → IsInBy l es p s e
one_chain l es e h p s = (in_no_other l es e p s, λ at. in_its_chain l es e p s h (sym at.0) (sym at.1))

-- what is found for a name is an entry of that name, in the chain of its slot
pub child_in_chain : (l : Letters) (es : List Entry) (p : ℕ) (name : List ℕ) (n : ℕ) (d : Entry) → child_by l es p name ≡ Some n
    → IsChildBy l es p name n (get_or es (n - 1) d)
child_in_chain l es p name n d h = grind (arith, common_steps, found_is_by, child_says_by, entry_at, in_its_chain, Contains-get_or, same_slot_by)

pub child_found_is : (l : Letters) (es : List Entry) (p : ℕ) (name : List ℕ) (n : ℕ) (d : Entry) → IsTreeBy l es
    → (child_by l es p name ≡ Some n) ↔ ((0 < n) × (n ≤ length es) × IsChildBy l es p name n (get_or es (n - 1) d))
child_found_is l es p name n d t = (
  λ h. let found = found_is_by l es p name n d h in (found.0, found.1, child_in_chain l es p name n d h),
  λ at.
      let back : n - 1 + 1 ≡ n = omega (arith, at.0) in
      rw back at (child_is_by l es p name (n - 1) d t (omega (arith, at.0, at.1))
      (is_child_from_by l p name (get_or es (n - 1) d) at.2.parent at.2.name)),
)
