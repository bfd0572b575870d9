-- A look-up in a chain finds the entry of the tree.
use Rattle.std.proofs.Common.{◌≡◌, ◌≢◌, false, ℕ, zero, suc, List, sym, subst, arith, get_or, Some, None}
use Rattle.std.proofs.{lemmas.Bool.false_from_ne_true, lemmas.Grind.common_steps}
use Rattle.adf_base.specs.{Hash.slot_by, declared.hash.Letters.Letters}
use Rattle.adf_names.specs.Texts.{uppers_by}
use Rattle.adf_tree.specs.{declared.entry.Entry.Entry, Tree.Tree, Tree.IsTreeBy, Tree.child_by, Tree.is_child_by}
use Rattle.adf_tree.proofs.ChildLookup.{child_says_by, is_child_from_by, child_is_by, no_children_by, same_slot_by}
use Rattle.adf_volume.specs.{Lists.At, Layout.EntryAt, Layout.chain_nodes_by}
use Rattle.adf_volume.proofs.{Lists.at_below, Lists.at_some, Lists.at_index_or, Chains.entry_at, Chains.entry_fun, Chains.place_at}

-- an entry of the directory with this name is the child
pub child_yes : (letters : Letters) (t : Tree) (p : ℕ) (name : List ℕ) (n : ℕ) (e : Entry) → IsTreeBy letters t.entries → EntryAt t n e
    → e.parent ≡ p → uppers_by letters e.name ≡ uppers_by letters name → child_by letters t.entries p name ≡ Some n
child_yes letters t p name zero e v h q u = absurd h
child_yes letters t p name (suc i) e v h q u =
    grind (arith, common_steps, at_below t.entries i e h, at_index_or t.entries i e e h, is_child_from_by letters p name e q u, child_is_by letters)

-- where no entry of the directory has this name there is no child
pub child_no : (letters : Letters) (t : Tree) (p : ℕ) (name : List ℕ)
    → ((n : ℕ) (e : Entry) → EntryAt t n e → e.parent ≡ p → uppers_by letters e.name ≢ uppers_by letters name)
    → child_by letters t.entries p name ≡ None
child_no letters t p name h = no_children_by letters t.entries p name
    (λ k d l.
    let e = at_some t.entries k l in
    let z : get_or t.entries k d ≡ e.0 = at_index_or t.entries k e.0 d e.1 in
    subst (λ (x : Entry). is_child_by letters p name x
    ≡ false) (sym z) (false_from_ne_true (is_child_by letters p name e.0)
    (λ y. let s = child_says_by letters p name e.0 y in h (suc k) e.0 e.1 s.0 s.1)))

-- a node of the chain with this name is the child
pub chain_yes : (letters : Letters) (t : Tree) (p s : ℕ) (name : List ℕ) (j n : ℕ) (e : Entry) → IsTreeBy letters t.entries
    → At (chain_nodes_by letters t p s) j n → EntryAt t n e → uppers_by letters e.name ≡ uppers_by letters name
    → child_by letters t.entries p name ≡ Some n
chain_yes letters t p s name j n e v c h u = grind (arith, common_steps, entry_at letters, entry_fun, child_yes letters)

-- where no node of the name's chain has this name there is no child
pub chain_no : (letters : Letters) (t : Tree) (p : ℕ) (name : List ℕ)
    → ((j n : ℕ) (e : Entry) → At (chain_nodes_by letters t p (slot_by letters name)) j n → EntryAt t n e
    → uppers_by letters e.name ≢ uppers_by letters name)
    → child_by letters t.entries p name ≡ None
chain_no letters t p name h = child_no letters t p name
    (λ n e a q u.
    let x = place_at letters t n e a in
    h x.0 n e (subst (λ p. At (chain_nodes_by letters t p (slot_by letters name)) x.0 n) q
    (subst (λ s. At (chain_nodes_by letters t e.parent s) x.0 n) (same_slot_by letters e.name name u) x.1)) a u)
