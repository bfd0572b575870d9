-- A table of entries has their directories and names, and look-up in it finds what look-up in the tree finds.
-- Letters: ls the letters whose case is ignored.
use Rattle.std.proofs.Common.{◌≡◌, ◌+◌, ◌≤◌, ◌<◌, ℕ, List, Bool, true, false, Some, None, get_or, length, max, take, nat_le, nat_lt, replicate, suc, refl, sym}
use Rattle.std.proofs.Common.{ap, subst, ◌∙◌, arith, inl, inr, take_all}
use Rattle.std.specs.List.Sorted.{IsNonDecreasingBy, IsPartitionPoint}
use Rattle.std.proofs.{lemmas.Bool.cases_lt, lemmas.Bool.false_from_ne_true, Math.Seq.take-append_seam, lemmas.Grind.common_steps}
use Rattle.adf_base.specs.{Hash.slot_by, declared.hash.Letters.Letters}
use Rattle.adf_names.specs.{Texts.is_name, PathTexts.IsPathText}
use Rattle.adf_tree.specs.{declared.entry.Entry.Entry, Tree.Tree, Tree.child_by, Tree.is_child_by, Tree.place_by, Tree.rank_by, Tree.rank_of}
use Rattle.adf_tree.proofs.ChildLookup.{child_found_by, child_not_before_by, child_not_past_by, child_says_by, no_children_by}
use Rattle.adf_tree.proofs.{Lists.some_in, WalkOrder.place_is_by}
use Rattle.adf_names.proofs.PathParts.{one_path}
use Rattle.adf_blocks.proofs.HeadLaws.{name_short}
use Rattle.adf_volume.proofs.{BoundedFits.name_valid, Lists.at_index_or, Lists.at_some}
use Rattle.adf_volume.specs.{Fits.FitsBy, Layout.Layout, Layout.at_node, Layout.head_at, Lists.At}
use Rattle.adf_memory.specs.{Rooms.filled, Tables.all_datas, Tables.entry_table, Tables.table_entry, declared.tables.TableEntry.TableEntry}
use Rattle.adf_memory.proofs.TableLaws.{told_here, told_length}
use Rattle.adf_memory.specs.TableNames.{HasNamesOfBy, IsEndBy, IsStartBy, is_child_in_by, name_in, rank_in_by}

module _ {ls : Letters} {xs : List TableEntry} {es : List Entry} (has : HasNamesOfBy ls xs es) where
  same_rank : (i : ℕ) (x : TableEntry) (e : Entry) → i < length es → rank_in_by ls (get_or xs i x) ≡ rank_by ls (get_or es i e)
  same_rank i x e lt = let p = has.parents i x e lt in let n = has.names i x e lt in λ j. rank_of (p j) (slot_by ls (n j))

  same_child : (i : ℕ) (x : TableEntry) (e : Entry) (p : ℕ) (name : List ℕ) → i < length es
      → is_child_in_by ls p name (get_or xs i x) ≡ is_child_by ls p name (get_or es i e)
  same_child i x e p name lt = grind (arith, common_steps)

  an_entry : (i : ℕ) → i < length es → TableEntry
  an_entry i lt = some_in xs (omega (arith, has.count))

  pub in_order : IsNonDecreasingBy (rank_in_by ls) xs
  in_order i j x le lt =
      let short : j < length es = omega (arith, has.count) in
      let e = some_in es (omega arith) in
      omega (arith, same_rank i x e (omega arith), same_rank j x e short, has.order i j e le short)

  -- where a list of the table is parted, that of the tree is
  parted : (f : ℕ → Bool) (n : ℕ) → n ≤ length xs → IsPartitionPoint (λ x. f (rank_in_by ls x) ≡ true) (λ x. f (rank_in_by ls x) ≡ false) xs n
      → IsPartitionPoint (λ e. f (rank_by ls e) ≡ true) (λ e. f (rank_by ls e) ≡ false) es n
  parted f n within point = (
    (λ k e low lt.
        let short : k < length es = omega (arith, has.count) in
        let x = an_entry k short in
        ap f (sym (same_rank k x e short)) ∙ point.0 k x low lt),
    (λ k e low lt.
        let x = an_entry k lt in
        ap f (sym (same_rank k x e lt)) ∙ point.1 k x low (omega (arith, has.count))),
  )

  module _ (p : ℕ) (name : List ℕ) (s : ℕ) (slot : s ≡ slot_by ls name) where
    -- an entry before its directory is none of its children
    before_parent : (k : ℕ) (d : Entry) → k < p → k < length es → is_child_by ls p name (get_or es k d) ≡ false
    before_parent k d low short = grind (arith, common_steps, false_from_ne_true, child_says_by)

    before_start : (from : ℕ) → from ≤ length xs → (IsNonDecreasingBy (rank_in_by ls) xs → IsStartBy ls xs (rank_of p s) from)
        → (k : ℕ) (d : Entry) → k < from → is_child_by ls p name (get_or es k d) ≡ false
    before_start from within point = child_not_before_by ls es p name s from slot (parted (λ r. nat_lt r (rank_of p s)) from within (point in_order))

    -- what stands before the chain, or before the directory
    pub before_both : (from at : ℕ) → from ≤ length xs → p ≤ length xs → at ≡ max from p
        → (IsNonDecreasingBy (rank_in_by ls) xs → IsStartBy ls xs (rank_of p s) from)
        → (k : ℕ) (d : Entry) → k < at → is_child_by ls p name (get_or es k d) ≡ false
    before_both from at within inside is point k d low =
        elim (cases_lt k from) [
          | inl less ↦ before_start from within point k d less
          | inr more ↦ before_parent k d (omega arith) (omega (arith, has.count))
        ]

    -- where no entry up to the end of the chain is the child, there is none
    pub past_end : (to i : ℕ) → to ≤ length xs → (IsNonDecreasingBy (rank_in_by ls) xs → IsEndBy ls xs (rank_of p s) to)
        → to ≤ i → ((k : ℕ) (d : Entry) → k < i → is_child_by ls p name (get_or es k d) ≡ false) → None ≡ child_by ls es p name
    past_end to i within point past others =
        let at : to ≡ place_by ls es (rank_of p s) =
        place_is_by ls es (rank_of p s) to (omega (arith, has.count)) (parted (λ r. nat_le r (rank_of p s)) to within (point in_order)) in
        sym (no_children_by ls es p name (child_not_past_by ls es p name s to i slot has.order at past others))

  pub one_more : (p : ℕ) (name : List ℕ) (i : ℕ) (x : TableEntry) (is : Bool) → i < length xs
      → is ≡ is_child_in_by ls p name (get_or xs i x) → is ≡ false
      → ((k : ℕ) (d : Entry) → k < i → is_child_by ls p name (get_or es k d) ≡ false) → (k : ℕ) (d : Entry) → k < i + 1
      → is_child_by ls p name (get_or es k d) ≡ false
  one_more p name i x is lt told other others k d low =
      elim (cases_lt k i) [
        | inl less ↦ others k d less
        | inr more ↦
            let same : i ≡ k = omega arith in
            subst (λ n. is_child_by ls p name (get_or es n d) ≡ false) same
            (sym (same_child i x d p name (omega (arith, has.count))) ∙ sym told ∙ other)
      ]

  pub found_here : (p : ℕ) (name : List ℕ) (i : ℕ) (x : TableEntry) (is : Bool) → i < length xs
      → is ≡ is_child_in_by ls p name (get_or xs i x) → is ≡ true
      → ((k : ℕ) (d : Entry) → k < i → is_child_by ls p name (get_or es k d) ≡ false) → Some (i + 1) ≡ child_by ls es p name
  found_here p name i x is lt told same others =
      let short : i < length es = omega (arith, has.count) in
      let e = at_some es i short in
      let here : get_or es i e.0 ≡ e.0 = at_index_or es i e.0 e.0 e.1 in
      child_found_by ls es p name i e.0 short (sym here)
      (ap (is_child_by ls p name) (sym here) ∙ sym (same_child i x e.0 p name short) ∙ sym told ∙ same) others

-- the name of an entry that fits is short
short_name : {ls : Letters} (image : List ℕ) (t : Tree) (l : Layout) (i : ℕ) (e : Entry) → FitsBy ls image t l → At t.entries i e → length e.name ≤ 30
short_name {ls} image t l i e fits at =
    let h : ℕ = at_node image l (suc i) in
    let f = fits.entries (suc i) e at in
    name_short e.name (ap is_name f.name ∙ name_valid ls image t.kind h (at_node image l e.parent) (slot_by ls e.name) f.form)

-- a text that fits a field stands at its front
pub text_there : (text room : List ℕ) → length text ≤ length room → take (length text) (filled text room) ≡ text
text_there text room le = grind (arith, common_steps, take_all, take-append_seam)

-- the name that is told of an entry is its own
pub name_told : {ls : Letters} (image : List ℕ) (t : Tree) (l : Layout) (i h k : ℕ) (e : Entry) → FitsBy ls image t l → At t.entries i e
    → name_in (table_entry h k e) ≡ e.name
name_told image t l i h k e fits at = text_there e.name (replicate 30 0) (short_name image t l i e fits at)

-- the table of a volume has the directories and names of its entries
pub table_names : {ls : Letters} (image : List ℕ) (t : Tree) (l : Layout) (xs : List TableEntry) → FitsBy ls image t l → xs ≡ entry_table t l
    → HasNamesOfBy ls xs t.entries
table_names image t l xs fits is = record {
  count = ap length is ∙ told_length 0 t.entries l.places fits.places;
  order = fits.tree.order;
  below = fits.tree.parents;
  parents = (λ i x e lt. let h = here i x e lt in ap (λ (y : TableEntry). y.parent) h.2 ∙ ap (λ (f : Entry). f.parent) (sym h.1));
  names = (λ i x e lt. let h = here i x e lt in
      ap name_in h.2 ∙ name_told image t l i (head_at l.places i) (length (all_datas (take i l.places))) h.0.0 fits h.0.1
      ∙ ap (λ (f : Entry). f.name) (sym h.1));
}
  where
    here : (i : ℕ) (x : TableEntry) (e : Entry) → i < length t.entries
        → (f : (f : Entry) × At t.entries i f) × (get_or t.entries i e ≡ f.0)
        × (get_or xs i x ≡ table_entry (head_at l.places i) (length (all_datas (take i l.places))) f.0)
    here i x e lt =
        let f = at_some t.entries i lt in
        let at = told_here t l i (length (all_datas (take i l.places))) f.0 f.1 fits.places refl in
        (f, at_index_or t.entries i f.0 e f.1, ap (λ ys. get_or ys i x) is ∙ at_index_or (entry_table t l) i _ x at)

-- a text has one path, so what holds of the path that was read holds of each
pub for_each_path : (text : List ℕ) (read names : List (List ℕ)) → IsPathText text read → IsPathText text names
    → (P : List (List ℕ) → Type 0) → P read → P names
for_each_path text read names a b P h = subst P (one_path text read names a b) h
