-- The laws of a tree, entry by entry.
use Rattle.std.proofs.Common.{◌≡◌, ℕ, zero, suc, ◌+◌, ◌-◌, ◌*◌, ◌<◌, ◌≤◌, ◌≢◌, length, sym, ap, subst, ◌∙◌, arith, slice_index_or}
use Rattle.std.proofs.lemmas.Grind.{common_steps}
use native.Mathlib.Decide.{dec_lt, ℕ_discrete}
use Rattle.adf_base.specs.{Hash.slot_by, declared.hash.Letters.Letters}
use Rattle.adf_tree.specs.{declared.entry.Entry.Entry, declared.entry.Body.TheVariants.Dir, Tree.Tree, Tree.IsDir, Tree.IsTreeBy, Tree.AreApartBy, Tree.rank_by}
use Rattle.adf_volume.specs.{Lists.At, Layout.EntryAt}
use Rattle.adf_volume.proofs.Lists.{at_fun, at_below, at_some, at_index_or}
use Rattle.adf_tree.proofs.TreeInvariant.{slot_small_by}

-- node n is the root, or an entry that is a directory
abbrev pub DirNode : Tree → ℕ → Type 0
DirNode t zero = Unit {0}
DirNode t (suc i) = (e : Entry) × At t.entries i e × (e.body ≡ Dir)

-- the directory of each entry is the root, or a directory before it
abbrev pub HasParents : Tree → Type 0
HasParents t = (n : ℕ) (e : Entry) → EntryAt t n e → (e.parent < n) × DirNode t e.parent

-- entries stand in the order of their directories, and in one directory in the order of their slots
abbrev pub HasOrder : Letters → Tree → Type 0
HasOrder letters t = (n m : ℕ) (e f : Entry) → EntryAt t n e → EntryAt t m f → n < m
    → (e.parent ≤ f.parent) × (e.parent ≡ f.parent → slot_by letters e.name ≤ slot_by letters f.name)

-- no two entries of a directory have equal names
abbrev pub HasNames : Letters → Tree → Type 0
HasNames letters t = (n m : ℕ) (e f : Entry) → EntryAt t n e → EntryAt t m f → n ≢ m → AreApartBy letters e f

-- what holds of the entries of a tree, by their numbers
pub record Ordered (letters : Letters) (t : Tree) : Type 0 where
  pub parents : HasParents t
  pub order : HasOrder letters t
  pub names : HasNames letters t

pub dir_node : (t : Tree) (p : ℕ) → IsDir t.entries p → DirNode t p
dir_node t zero h = tt
dir_node t (suc i) h =
    let x = h (omega arith) in
    let l : suc i ≤ length t.entries = x.0 in
    let e = at_some t.entries i (omega arith) in
    let z : suc i - 1 ≡ i = omega arith in (
      e.0,
      e.1,
      ap (λ (y : Entry). y.body) (sym (at_index_or t.entries i e.0 e.0 e.1)) ∙ subst (λ k. (slice_index_or t.entries k e.0).body ≡ Dir) z
          (x.1 e.0),
    )

pub is_dir : (t : Tree) (p : ℕ) → DirNode t p → IsDir t.entries p
is_dir t zero d = λ h. absurd (omega arith)
is_dir t (suc i) d = λ h.
    let l : i < length t.entries = at_below t.entries i d.0 d.1 in
    let z : i ≡ suc i - 1 = omega arith in (
      omega arith,
      λ x. subst (λ k. (slice_index_or t.entries k x).body ≡ Dir) z
          (ap (λ (y : Entry). y.body) (at_index_or t.entries i d.0 x d.1) ∙ d.2),
    )

rank_below : (p q s u : ℕ) → 72 * p + s ≤ 72 * q + u → s < 72 → u < 72 → (p ≤ q) × (p ≡ q → s ≤ u)
rank_below p q s u h a b = (omega arith, λ e. omega arith)

rank_up : (p q s u : ℕ) → p ≤ q → (p ≡ q → s ≤ u) → s < 72 → 72 * p + s ≤ 72 * q + u
rank_up p q s u h f a = elim (ℕ_discrete p q) [ yes e ↦ let k : s ≤ u = f e in omega arith | no n ↦ omega arith ]

module _ {letters : Letters} (t : Tree) (v : IsTreeBy letters t.entries) where
  parents_of : HasParents t
  parents_of zero e h = absurd h
  parents_of (suc i) e h =
      let l : i < length t.entries = at_below t.entries i e h in
      let z : slice_index_or t.entries i e ≡ e = at_index_or t.entries i e e h in
      let p : e.parent ≤ i = subst (λ (f : Entry). f.parent ≤ i) z (v.parents i e l) in
      (omega arith, dir_node t e.parent (subst (λ (f : Entry). IsDir t.entries f.parent) z (v.dirs i e l)))

  order_of : HasOrder letters t
  order_of zero m e f h k lt = absurd h
  order_of (suc i) zero e f h k lt = absurd k
  order_of (suc i) (suc j) e f h k lt =
      let l : j < length t.entries = at_below t.entries j f k in
      let x : rank_by letters (slice_index_or t.entries i e) ≤ rank_by letters (slice_index_or t.entries j e) = v.order i j e (omega arith) l in
      let y : rank_by letters e ≤ rank_by letters f =
      subst (λ (g : Entry). rank_by letters e ≤ rank_by letters g) (at_index_or t.entries j f e k)
      (subst (λ (g : Entry). rank_by letters g ≤ rank_by letters (slice_index_or t.entries j e)) (at_index_or t.entries i e e h) x) in
      rank_below e.parent f.parent (slot_by letters e.name) (slot_by letters f.name) y (slot_small_by letters e.name) (slot_small_by letters f.name)

  apart : (i j : ℕ) (e f : Entry) → At t.entries i e → At t.entries j f → i < j → AreApartBy letters e f
  apart i j e f h k lt = grind (arith, common_steps, at_below t.entries j f k, at_index_or t.entries j f e k, at_index_or t.entries i e e h)

  names_of : HasNames letters t
  names_of = grind (arith, common_steps, apart)

  pub ordered : Ordered letters t
  ordered = record { parents = parents_of; order = order_of; names = names_of }

pub is_tree_from : {letters : Letters} (t : Tree) → Ordered letters t → IsTreeBy letters t.entries
is_tree_from {letters = letters} t o = record {
  parents = (λ i d l.
      let e = at_some t.entries i l in
      let x : e.0.parent < suc i = (o.parents (suc i) e.0 e.1).0 in
      subst (λ (f : Entry). f.parent ≤ i) (sym (at_index_or t.entries i e.0 d e.1)) (omega arith));
  dirs = (λ i d l.
      let e = at_some t.entries i l in
      subst (λ (f : Entry). IsDir t.entries f.parent) (sym (at_index_or t.entries i e.0 d e.1)) (is_dir t e.0.parent (o.parents (suc i) e.0 e.1).1));
  order = (λ i j d le l.
      let e = at_some t.entries i (omega arith) in
      let f = at_some t.entries j l in
      subst (λ (g : Entry). rank_by letters g ≤ rank_by letters (slice_index_or t.entries j d)) (sym (at_index_or t.entries i e.0 d e.1))
      (subst (λ (g : Entry). rank_by letters e.0 ≤ rank_by letters g) (sym (at_index_or t.entries j f.0 d f.1)) (rises i j e.0 f.0 e.1 f.1 le)));
  names = (λ i j d lt l.
      let e = at_some t.entries i (omega arith) in
      let f = at_some t.entries j l in
      subst (λ (g : Entry). AreApartBy letters g (slice_index_or t.entries j d)) (sym (at_index_or t.entries i e.0 d e.1))
      (subst (λ (g : Entry). AreApartBy letters e.0 g) (sym (at_index_or t.entries j f.0 d f.1))
      (o.names (suc i) (suc j) e.0 f.0 e.1 f.1 (omega arith))));
}
  where
    rises : (i j : ℕ) (e f : Entry) → At t.entries i e → At t.entries j f → i ≤ j → rank_by letters e ≤ rank_by letters f
    rises i j e f h k le =
        elim (dec_lt i j) [
          | yes lt ↦
              let x = o.order (suc i) (suc j) e f h k (omega arith) in
              rank_up e.parent f.parent (slot_by letters e.name) (slot_by letters f.name) x.0 x.1
              (slot_small_by letters e.name)
          | no lt ↦
              let z : e ≡ f = at_fun t.entries i e f h (subst (λ m. At t.entries m f) (omega arith) k) in
              subst (λ (g : Entry). rank_by letters e ≤ rank_by letters g) z (omega arith)
        ]
