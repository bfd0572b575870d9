-- Adding the entries of a tree one after another gives the tree.
use Rattle.std.proofs.Common.{◌≡◌, ℕ, suc, ◌+◌, ◌<◌, ◌≤◌, length, take, take_all, get_or, refl, sym, ap, subst, ◌∙◌, arith, Option, Some, None}
use Rattle.std.specs.Prelude.{IsSome, option_map}
use Rattle.std.proofs.{lemmas.List.take_more, lemmas.Grind.common_steps}
use Rattle.adf_base.specs.declared.hash.Letters.{Letters}
use Rattle.adf_tree.specs.declared.entry.Body.{Body, TheVariants.Dir, TheVariants.File}
use Rattle.adf_tree.specs.{declared.entry.Entry.Entry, Laws.IsNextEntryBy, Tree.IsTreeBy, Tree.Tree, Tree.entry, Tree.with_last, Tree.IsLastBy, Tree.MayAddBy}
use Rattle.adf_tree.proofs.TreePrefixes.{is_next}
use Rattle.adf_volume.proofs.{Lists.at_index_or, Lists.at_some, Chains.entry_is_at}
use Rattle.adf_check.specs.{Pieces.body_bytes, Pieces.bytes_of, Rebuild.body_with}
use Rattle.adf_volume.specs.{Rows.row_of_entry, declared.row.Row.Row}

body_back : (body : Body) → body_with (body_bytes body) ≡ body
body_back Dir = refl
body_back (File bytes) = refl

-- what is told of an entry, with its bytes, is the entry
pub entry_back : (r : Row) (body : Body) (x : Option Entry) → Some r ≡ option_map row_of_entry x → body ≡ body_with (bytes_of x)
    → ◌≡◌ {A = Option Entry} (Some (record { parent = r.parent; name = r.name; meta = r.meta; body = body })) x
entry_back r body None h b = cc
entry_back r body (Some e) h b = grind (arith, common_steps, body_back)

-- of which no row tells is no entry
pub entry_none : (x : Option Entry) → ◌≡◌ {A = Option Row} None (option_map row_of_entry x) → ◌≡◌ {A = Option Entry} None x
entry_none None h = refl
entry_none (Some e) h = cc

-- there is an entry with each number up to the last
pub some_entry : (t : Tree) (n i : ℕ) (x : Option Entry) → n ≡ i + 1 → i < length t.entries → x ≡ entry t.entries n → IsSome x
some_entry t n i x z lt e =
    let k : i + 1 ≡ suc i = omega arith in
    let v = at_some t.entries i lt in
    subst IsSome (sym (e ∙ ap (entry t.entries) (z ∙ k) ∙ (entry_is_at t (suc i) v.0).0 v.1)) refl

entry_here : (t : Tree) (i : ℕ) (x : Entry) → Some x ≡ entry t.entries (i + 1) → get_or t.entries i x ≡ x
entry_here t i x e = grind (arith, common_steps, at_index_or, entry_is_at t (suc i) x)

-- each entry may be added behind those before it
pub may_follow : {letters : Letters} {t u : Tree} {i n : ℕ} {x : Entry} {r : Option Entry} → t.letters ≡ letters → IsTreeBy letters t.entries
    → u ≡ record { kind = t.kind; letters = t.letters; label = t.label; stamps = t.stamps; entries = take i t.entries }
    → n ≡ length t.entries → i < n
    → r ≡ entry t.entries (i + 1) → r ≡ Some x → MayAddBy u.letters u.entries x × IsLastBy u.letters u.entries x
may_follow {letters = l} {t = t} {u = u} {i = i} {x = x} is_letters tree e count lt here is =
    let next : IsNextEntryBy l t.entries i x =
    subst (IsNextEntryBy l t.entries i) (entry_here t i x (sym is ∙ here)) (is_next t.entries i x tree (omega arith)) in
    subst (λ (u : Tree). MayAddBy u.letters u.entries x × IsLastBy u.letters u.entries x) (sym e)
    (subst (λ (l : Letters). MayAddBy l (take i t.entries) x × IsLastBy l (take i t.entries) x) (sym is_letters) (next.may, next.last))

-- the first entries and the next one
pub tree_more : (t : Tree) (i : ℕ) (x : Entry) → i < length t.entries → Some x ≡ entry t.entries (i + 1)
    → with_last (record { kind = t.kind; letters = t.letters; label = t.label; stamps = t.stamps; entries = take i t.entries }) x
    ≡ record { kind = t.kind; letters = t.letters; label = t.label; stamps = t.stamps; entries = take (i + 1) t.entries }
tree_more t i x lt e = grind (arith, common_steps, entry_here, take_more t.entries i x lt)

-- all entries
pub tree_whole : (t : Tree) (i : ℕ) → length t.entries ≤ i
    → ◌≡◌ {A = Tree} (record { kind = t.kind; letters = t.letters; label = t.label; stamps = t.stamps; entries = take i t.entries }) t
tree_whole t i h = grind (arith, common_steps, take_all)
