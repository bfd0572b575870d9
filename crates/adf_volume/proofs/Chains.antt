-- Chains of a tree.
use Rattle.std.proofs.Common.{◌≡◌, ℕ, zero, suc, List, [], ◌∷◌, ◌++◌, ◌⊎◌, inl, inr, ◌+◌, ◌<◌, ◌≤◌, length, refl, sym, ap, subst, ◌∙◌, arith, Bool, true, false}
use Rattle.std.proofs.Common.{cond, rules, Some, ◌↔◌, map, append_assoc, ◌==◌, ◌&&◌}
use Rattle.std.specs.List.{slice_get}
use Rattle.adf_tree.specs.{Tree.entry, Tree.Tree, Chain.chain_by, Chain.in_chain_by, declared.entry.Entry.Entry}
use Rattle.adf_volume.proofs.{Lists.snoc_length, Lists.at_fun, Lists.at_below, Lists.at_some, TreeOrder.Ordered, Comparisons.both_equal, Comparisons.equal_both}
use Rattle.std.proofs.{lemmas.Bool.Decides.nat_tests, lemmas.Grind.common_steps}
use Rattle.adf_volume.specs.{Lists.At, Layout.EntryAt, Layout.nodes_from_by, Layout.chain_nodes_by, Walk.Before, Walk.Role.Head}
use Rattle.adf_base.specs.{Hash.slot_by, declared.hash.Letters.Letters}

-- a place in a list that begins with k where t holds
at_kept : (t : Bool) (k : ℕ) (rest : List ℕ) (j n : ℕ) → At (cond t (k ∷ rest) rest) j n → ((t ≡ true) × (k ≡ n)) ⊎ ((i : ℕ) × At rest i n)
at_kept t k rest j n h = grind (arith, common_steps)

-- a chain rises
rises_kept : (t : Bool) (k : ℕ) (rest : List ℕ) (i j n m : ℕ) → ((l x : ℕ) → At rest l x → k < x)
    → ((i j n m : ℕ) → At rest i n → At rest j m → i < j → n < m) → At (cond t (k ∷ rest) rest) i n → At (cond t (k ∷ rest) rest) j m → i < j → n < m
rises_kept t k rest i j n m h o p q r = grind (arith, common_steps)

pub entry_fun : (t : Tree) (n : ℕ) (e f : Entry) → EntryAt t n e → EntryAt t n f → e ≡ f
entry_fun t zero e f h k = absurd h
entry_fun t (suc i) e f h k = at_fun t.entries i e f h k

pub entry_below : (t : Tree) (n : ℕ) (e : Entry) → EntryAt t n e → n ≤ length t.entries
entry_below t zero e h = absurd h
entry_below t (suc i) e h = let k : i < length t.entries = at_below t.entries i e h in omega arith

pub entry_some : (t : Tree) (n : ℕ) → 1 ≤ n → n ≤ length t.entries → (e : Entry) × EntryAt t n e
entry_some t zero l u = absurd (omega arith)
entry_some t (suc i) l u = at_some t.entries i (omega arith)

entry_suc : (es : List Entry) (i : ℕ) → entry es (suc i) ≡ slice_get es i
entry_suc es i = grind (arith, common_steps, nat_tests)

module _ (letters : Letters) where
  at_chain : (k : ℕ) (es : List Entry) (p s j n : ℕ) → At (nodes_from_by letters k es p s) j n
      → record {
        index : ℕ;
        entry : Entry;
        at : At es index entry;
        number : n ≡ k + index;
        parent : entry.parent ≡ p;
        slot : slot_by letters entry.name ≡ s;
      }
  at_chain k [] p s j n h = absurd h
  at_chain k (e ∷ es) p s j n h =
      elim (at_kept ((e.parent == p) && (slot_by letters e.name == s)) k (nodes_from_by letters (suc k) es p s) j n h) [
        | inl z ↦
            let q = both_equal e.parent p (slot_by letters e.name) s z.0 in
            record { index = 0; entry = e; at = refl; number = sym z.1 ∙ omega arith; parent = q.0; slot = q.1 }
        | inr g ↦
            let r = at_chain (suc k) es p s g.0 n g.1 in
            record { index = suc r.index; entry = r.entry; at = r.at; number = r.number ∙ omega arith; parent = r.parent; slot = r.slot }
      ]

  -- each entry is in the chain of its parent and slot
  pub chain_at : (k : ℕ) (es : List Entry) (i : ℕ) (e : Entry) → At es i e
      → (j : ℕ) × At (nodes_from_by letters k es e.parent (slot_by letters e.name)) j (k + i)
  chain_at k [] i e h = absurd h
  chain_at k (f ∷ es) zero e h = grind (arith, common_steps, equal_both)
  chain_at k (f ∷ es) (suc i) e h =
      let r = chain_at (suc k) es i e h in
      let z : suc k + i ≡ k + suc i = omega arith in
      let rest : List ℕ = nodes_from_by letters (suc k) es e.parent (slot_by letters e.name) in
      put ((f.parent == e.parent) && (slot_by letters f.name == slot_by letters e.name)) k rest r.0 (k + suc i) (subst (λ m. At rest r.0 m) z r.1)
    where
      put : (t : Bool) (k : ℕ) (rest : List ℕ) (j n : ℕ) → At rest j n → (i : ℕ) × At (cond t (k ∷ rest) rest) i n
      put true k rest j n h = (suc j, h)
      put false k rest j n h = (j, h)

  pub chain_rises : (k : ℕ) (es : List Entry) (p s i j n m : ℕ) → At (nodes_from_by letters k es p s) i n → At (nodes_from_by letters k es p s) j m
      → i < j → n < m
  chain_rises k [] p s i j n m a b l = absurd a
  chain_rises k (e ∷ es) p s i j n m a b l = search (rules, rises_kept, at_chain, chain_rises (suc k) es p s)

  -- entry n is one of slot s of directory p
  pub record SlotEntry (t : Tree) (p s n : ℕ) : Type 0 where
    pub entry : Entry
    pub at : EntryAt t n entry
    pub parent : entry.parent ≡ p
    pub slot : slot_by letters entry.name ≡ s
    pub low : 1 ≤ n

  -- the entry of a place in a chain
  pub entry_at : (t : Tree) (p s j n : ℕ) → At (chain_nodes_by letters t p s) j n → SlotEntry t p s n
  entry_at t p s j n h = search (rules, at_chain)

  pub place_at : (t : Tree) (n : ℕ) (e : Entry) → EntryAt t n e → (j : ℕ) × At (chain_nodes_by letters t e.parent (slot_by letters e.name)) j n
  place_at t zero e h = absurd h
  place_at t (suc i) e h = grind (arith, common_steps, chain_at 1 t.entries i e h)

  -- a node has one place in its chain
  pub place_fun : (t : Tree) (p s i j n : ℕ) → At (chain_nodes_by letters t p s) i n → At (chain_nodes_by letters t p s) j n → i ≡ j
  place_fun t p s i j n a b = grind (arith, common_steps, chain_rises)

  -- a node is in one chain, at one place
  pub one_place : (t : Tree) (p s i q u j n : ℕ) → At (chain_nodes_by letters t p s) i n → At (chain_nodes_by letters t q u) j n
      → (p ≡ q) × (s ≡ u) × (i ≡ j)
  one_place t p s i q u j n a b = grind (arith, common_steps, entry_at, entry_fun, place_fun)

  -- a node that comes later stands later
  pub sorted_places : (t : Tree) → Ordered letters t → (p s i q u j n m a b : ℕ) → At (chain_nodes_by letters t p s) i n
      → At (chain_nodes_by letters t q u) j m → n < m → Before (Head a p s i) (Head b q u j)
  sorted_places t v p s i q u j n m a' b' a b l = grind (arith, common_steps, entry_at, chain_rises, at_fun)

  -- one more entry
  pub chain_snoc : (k : ℕ) (es : List Entry) (e : Entry) (p s : ℕ)
      → nodes_from_by letters k (es ++ e ∷ []) p s
      ≡ nodes_from_by letters k es p s ++ cond ((e.parent == p) && (slot_by letters e.name == s)) ((k + length es) ∷ []) []
  chain_snoc k [] e p s = let z : k ≡ k + 0 = omega arith in ap (λ m. cond ((e.parent == p) && (slot_by letters e.name == s)) (m ∷ []) []) z
  chain_snoc k (f ∷ es) e p s = search (rules, chain_snoc (suc k) es e p s)

  -- the nodes of a chain are the entries of the chain
  nodes_chain : (pre es : List Entry) (p s : ℕ)
      → map (λ n. entry (pre ++ es) n) (nodes_from_by letters (suc (length pre)) es p s) ≡ map Some (chain_by letters es p s)
  nodes_chain pre [] p s = refl
  nodes_chain pre (e ∷ es) p s =
      let here : entry (pre ++ e ∷ es) (suc (length pre)) ≡ Some e = get_here pre in
      let ih : map (λ n. entry ((pre ++ e ∷ []) ++ es) n) (nodes_from_by letters (suc (length (pre ++ e ∷ []))) es p s)
      ≡ map Some (chain_by letters es p s) =
      nodes_chain (pre ++ e ∷ []) es p s in
      let rest : map (λ n. entry (pre ++ e ∷ es) n) (nodes_from_by letters (suc (suc (length pre))) es p s) ≡ map Some (chain_by letters es p s) =
      ap (λ k. map (λ n. entry (pre ++ e ∷ es) n) (nodes_from_by letters (suc k) es p s)) (sym (snoc_length pre e))
      ∙ ap (λ xs. map (λ n. entry xs n) (nodes_from_by letters (suc (length (pre ++ e ∷ []))) es p s)) (sym (append_assoc pre (e ∷ []) es))
      ∙ ih in
      put (in_chain_by letters p s e) here rest
    where
      get_here : (pre : List Entry) → entry (pre ++ e ∷ es) (suc (length pre)) ≡ Some e
      get_here pre = entry_suc (pre ++ e ∷ es) (length pre) ∙ at pre
        where
          at : (pre : List Entry) → slice_get (pre ++ e ∷ es) (length pre) ≡ Some e
          at [] = refl
          at (x ∷ pre) = at pre

      put : (t : Bool) → entry (pre ++ e ∷ es) (suc (length pre)) ≡ Some e
          → map (λ n. entry (pre ++ e ∷ es) n) (nodes_from_by letters (suc (suc (length pre))) es p s) ≡ map Some (chain_by letters es p s) →
          map (λ n. entry (pre ++ e ∷ es) n) (cond t (suc (length pre) ∷ nodes_from_by letters (suc (suc (length pre))) es p s)
          (nodes_from_by letters (suc (suc (length pre))) es p s)) ≡ map Some (cond t (e ∷ chain_by letters es p s) (chain_by letters es p s))
      put true h r = λ i. h i ∷ r i
      put false h r = r

  pub chain_entries : (t : Tree) (p s : ℕ) → map (λ n. entry t.entries n) (chain_nodes_by letters t p s) ≡ map Some (chain_by letters t.entries p s)
  chain_entries t p s = nodes_chain [] t.entries p s

pub entry_is_at : (t : Tree) (n : ℕ) (e : Entry) → EntryAt t n e ↔ (entry t.entries n ≡ Some e)
entry_is_at t n e = (to n, from n)
  where
    get : (es : List Entry) (i : ℕ) → At es i e → slice_get es i ≡ Some e
    get [] i h = absurd h
    get (x ∷ es) zero h = ap Some h
    get (x ∷ es) (suc i) h = get es i h

    got : (es : List Entry) (i : ℕ) → slice_get es i ≡ Some e → At es i e
    got [] i h = cc
    got (x ∷ es) zero h = cc
    got (x ∷ es) (suc i) h = got es i h

    to : (n : ℕ) → EntryAt t n e → entry t.entries n ≡ Some e
    to zero h = absurd h
    to (suc i) h = entry_suc t.entries i ∙ get t.entries i h

    from : (n : ℕ) → entry t.entries n ≡ Some e → EntryAt t n e
    from zero h = cc
    from (suc i) h = got t.entries i (sym (entry_suc t.entries i) ∙ h)
