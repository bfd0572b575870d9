-- The order of entries, and the chains that result.
use Rattle.std.proofs.Common.{◌≡◌, ◌≤◌, ◌<◌, ◌≢◌, ◌+◌, ◌*◌, ℕ, zero, suc, List, [], ◌∷◌, refl, sym, ap, subst, ◌∙◌, arith, false, length, drop, inl, inr}
use Rattle.std.proofs.Common.{get_or-set_other, get_or-set_same, ◌==◌, ◌&&◌, slice_index, slice_index_or, replicate}
use Rattle.std.specs.List.{AllWithin, Sorted.IsNonDecreasingBy}
use Rattle.std.proofs.{Math.ListN.set, lemmas.Bool.cases_eq, lemmas.Bool.cases_lt, lemmas.Bool.Decides.nat_tests, lemmas.Grind.common_steps}
use Rattle.std.proofs.lemmas.List.{drop_all, get_or-replicate, FromFn.fill_by_all}
use Rattle.adf_base.specs.{Hash.slot_by, declared.hash.Letters.Letters}
use Rattle.adf_tree.specs.{declared.entry.Entry.Entry, Chain.in_chain_by, Tree.IsTreeBy, Tree.rank_by}
use Rattle.adf_tree.proofs.TreeInvariant.{slot_small_by}
use Rattle.adf_volume.specs.Layout.{nodes_from_by}
use Rattle.adf_build.specs.{Laid.first_block, Laid.slots_by, Order.RisesFromBy}
use Rattle.adf_volume.proofs.Comparisons.{equal_both}

-- a lower bound
pub rises_low : (letters : Letters) (q r : ℕ) (es : List Entry) → q ≤ r → RisesFromBy letters r es → RisesFromBy letters q es
rises_low letters q r [] h o = tt
rises_low letters q r (e ∷ es) h o = let l : r ≤ rank_by letters e = o.0 in (omega arith, o.1)

rises : (letters : Letters) (r : ℕ) (es : List Entry) → ((j : ℕ) (d : Entry) → j < length es → r ≤ rank_by letters (slice_index_or es j d))
    → IsNonDecreasingBy (rank_by letters) es
    → RisesFromBy letters r es
rises letters r [] f o = tt
rises letters r (e ∷ es) f o = (
  f 0 e (omega arith),
  rises letters (rank_by letters e) es (λ j d l. o 0 (suc j) d (omega arith) (omega arith))
      (λ i j d h l. o (suc i) (suc j) d (omega arith) (omega arith)),
)

-- the entries of a tree rise
pub tree_rises : (letters : Letters) (es : List Entry) → IsTreeBy letters es → RisesFromBy letters 0 es
tree_rises letters es t = rises letters 0 es (λ j d l. omega arith) t.order

pub rises_drop : (letters : Letters) (r i : ℕ) (es : List Entry) → RisesFromBy letters r es → RisesFromBy letters r (drop i es)
rises_drop letters r zero es o = o
rises_drop letters r (suc i) [] o = tt
rises_drop letters r (suc i) (e ∷ es) o = rises_drop letters r i es (rises_low letters r (rank_by letters e) es o.0 o.1)

apart : (a b c d : ℕ) → (a ≡ b → c ≡ d → ⊥) → ((a == b) && (c == d)) ≡ false
apart a b c d h = grind (arith, nat_tests)

-- an entry that does not stand in a chain
passed : (letters : Letters) (n : ℕ) (e : Entry) (es : List Entry) (p s : ℕ) → (e.parent ≡ p → slot_by letters e.name ≡ s → ⊥)
    → nodes_from_by letters n (e ∷ es) p s ≡ nodes_from_by letters (suc n) es p s
passed letters n e es p s h = grind (arith, common_steps, apart)

-- an entry that stands in a chain
taken : (letters : Letters) (n : ℕ) (e : Entry) (es : List Entry) (p s : ℕ) → e.parent ≡ p → slot_by letters e.name ≡ s
    → nodes_from_by letters n (e ∷ es) p s ≡ n ∷ nodes_from_by letters (suc n) es p s
taken letters n e es p s h k = grind (arith, common_steps, equal_both)

-- where all entries stand behind a chain, it is empty
pub none_below : (letters : Letters) (n r : ℕ) (es : List Entry) (p s : ℕ) → RisesFromBy letters r es → 72 * p + s < r
    → nodes_from_by letters n es p s ≡ []
none_below letters n r [] p s o h = refl
none_below letters n r (e ∷ es) p s o h =
    let l : r ≤ 72 * e.parent + slot_by letters e.name = o.0 in
    passed letters n e es p s (λ a b. omega arith) ∙ none_below letters (suc n) (rank_by letters e) es p s o.1 (omega arith)

not_both : (a b c d : ℕ) → ((a == b) && (c == d)) ≡ false → a ≡ b → c ≡ d → ⊥
not_both a b c d t e f = grind (arith, nat_tests)

-- the entry at a place, by what is left from there on
pub place_is : (es rest : List Entry) (i : ℕ) (e d : Entry) → drop i es ≡ e ∷ rest → slice_index_or es i d ≡ e
place_is [] rest zero e d h = cc
place_is [] rest (suc i) e d h = cc
place_is (x ∷ es) rest zero e d h = cc
place_is (x ∷ es) rest (suc i) e d h = place_is es rest i e d h

-- the entries behind one of a tree rise from it
pub rises_behind : (letters : Letters) (es rest : List Entry) (i : ℕ) (e : Entry) → IsTreeBy letters es → drop i es ≡ e ∷ rest
    → RisesFromBy letters (rank_by letters e) rest
rises_behind letters es rest i e t split = let p : RisesFromBy letters 0 (e ∷ rest) = subst (RisesFromBy letters 0) split
    (rises_drop letters 0 i es (tree_rises letters es t)) in p.1

-- the next of a chain is none, where the next entry stands elsewhere or there is none
pub next_none : (letters : Letters) (at : ℕ → ℕ) (n i : ℕ) (es rest : List Entry) (e f : Entry) → IsTreeBy letters es
    → drop i es ≡ e ∷ drop (i + 1) es → drop (i + 1) es ≡ f ∷ rest
    → in_chain_by letters e.parent (slot_by letters e.name) f ≡ false
    → first_block at (nodes_from_by letters n (drop (i + 1) es) e.parent (slot_by letters e.name)) ≡ 0
next_none letters at n i es rest e f tree here split t =
    let h : f.parent ≡ e.parent → slot_by letters f.name ≡ slot_by letters e.name → ⊥ =
    not_both f.parent e.parent (slot_by letters f.name) (slot_by letters e.name) t in
    let p : RisesFromBy letters (rank_by letters e) (f ∷ rest) = subst (RisesFromBy letters (rank_by letters e)) split
    (rises_behind letters es (drop (i + 1) es) i e tree here) in
    let l : 72 * e.parent + slot_by letters e.name ≤ 72 * f.parent + slot_by letters f.name = p.0 in
    let up : 72 * e.parent + slot_by letters e.name < rank_by letters f =
    further e.parent f.parent (slot_by letters e.name) (slot_by letters f.name) l (slot_small_by letters e.name) (slot_small_by letters f.name) h in
    rw (split, passed letters n f rest e.parent (slot_by letters e.name) h)
    (ap (first_block at) (none_below letters (suc n) (rank_by letters f) rest e.parent (slot_by letters e.name) p.1 up))
  where
    further : (p q s u : ℕ) → 72 * p + s ≤ 72 * q + u → s < 72 → u < 72 → (q ≡ p → u ≡ s → ⊥) → 72 * p + s < 72 * q + u
    further p q s u l a b h = grind (arith, common_steps, cases_lt)

pub next_end : (letters : Letters) (at : ℕ → ℕ) (n i p s : ℕ) (es : List Entry) → length es ≤ i
    → first_block at (nodes_from_by letters n (drop i es) p s) ≡ 0
next_end letters at n i p s es h = rw (drop_all i es h)

-- the parent of an entry stands before it
pub parent_below : (letters : Letters) (es rest : List Entry) (i : ℕ) (e : Entry) → IsTreeBy letters es → drop i es ≡ e ∷ rest → i < length es
    → e.parent ≤ i
parent_below letters es rest i e t split l = subst (λ (x : Entry). x.parent ≤ i) (place_is es rest i e e split) (t.parents i e l)

-- one child more
pub mine_step : (es : List Entry) (p from end : ℕ) (e : Entry) → drop end es ≡ e ∷ drop (end + 1) es → e.parent ≡ p
    → AllWithin (λ (e : Entry). e.parent ≡ p) es from end → AllWithin (λ (e : Entry). e.parent ≡ p) es from (end + 1)
mine_step es p from end e here h w = grind (arith, common_steps, cases_lt, place_is)

pub low_step : (letters : Letters) (es : List Entry) (r end : ℕ) (e : Entry) → drop end es ≡ e ∷ drop (end + 1) es
    → RisesFromBy letters r (drop end es)
    → RisesFromBy letters r (drop (end + 1) es)
low_step letters es r end e here o = let p = rw here at o in rises_low letters r (rank_by letters e) (drop (end + 1) es) p.0 p.1

-- the chains of other nodes begin behind a child
pub others_step : (letters : Letters) (es : List Entry) (end p : ℕ) (e : Entry) (q s : ℕ) → drop end es ≡ e ∷ drop (end + 1) es → e.parent ≡ p → q ≢ p
    → nodes_from_by letters (end + 1) (drop end es) q s ≡ nodes_from_by letters (end + 1 + 1) (drop (end + 1) es) q s
others_step letters es end p e q s here h ne = grind (arith, common_steps, passed)

-- no slot is filled behind the children
pub slots_start : (letters : Letters) (at : ℕ → ℕ) (n p s : ℕ) (left : List Entry) → RisesFromBy letters (72 * (p + 1)) left → s < 72
    → slice_index (replicate 72 0) s ≡ first_block at (nodes_from_by letters n left p s)
slots_start letters at n p s left o h = get_or-replicate 72 s 0 0 h
    ∙ sym (ap (first_block at) (none_below letters n (72 * (p + 1)) left p s o (omega arith)))

-- one child more, before the others
pub slots_step : (letters : Letters) (slots : List ℕ) (at : ℕ → ℕ) (es : List Entry) (k m p from end t : ℕ) (e : Entry) → k + 1 ≡ m
    → drop k es ≡ e ∷ drop (k + 1) es
    → AllWithin (λ (e : Entry). e.parent ≡ p) es from end → from ≤ k → k < end → t ≡ slot_by letters e.name → length slots ≡ 72
    → ((s : ℕ) → s < 72 → slice_index slots s ≡ first_block at (nodes_from_by letters (m + 1) (drop m es) p s))
    → (s : ℕ) → s < 72 → slice_index (set slots t (at (k + 1))) s ≡ first_block at (nodes_from_by letters (k + 1) (drop k es) p s)
slots_step letters slots at es k m p from end t e up here mine lo hi slot long f s lt = elim (cases_eq s t) [
  | inl z ↦
      let set = get_or-set_same slots t (at (k + 1)) 0 (omega arith) in
      let first = taken letters (k + 1) e (drop (k + 1) es) p s child (sym slot ∙ sym z) in
      cc
  | inr ne ↦
      let next : m + 1 ≡ suc (k + 1) = omega arith in
      let kept = get_or-set_other slots t s (at (k + 1)) 0 ne in
      let others = passed letters (k + 1) e (drop (k + 1) es) p s (λ a b. ne (sym b ∙ sym slot)) in
      let old = f s lt in
      cc
]
  where
    child : e.parent ≡ p
    child = ap (λ (x : Entry). x.parent) (sym (place_is es (drop (k + 1) es) k e e here)) ∙ mine k e lo hi

-- the slots of a node, each of which is known
pub slots_are : (letters : Letters) (slots nodes : List ℕ) (es : List Entry) (p : ℕ) → length slots ≡ 72
    → ((s : ℕ) → s < 72 → slice_index slots s ≡ first_block (slice_index nodes) (nodes_from_by letters 1 es p s))
    → slots ≡ slots_by letters nodes es p
slots_are letters slots nodes es p len h = fill_by_all (λ s. first_block (slice_index nodes) (nodes_from_by letters 1 es p s)) slots 72 0 len h
