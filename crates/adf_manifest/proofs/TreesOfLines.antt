-- The tree of a manifest's lines: adding the entry lines in order gives it, and there is no other.
use Rattle.std.proofs.Common.{◌≡◌, ◌++◌, ◌∙◌, List, [], ◌∷◌, refl, sym, ap, subst, map, append_assoc, arith}
use Rattle.std.proofs.{lemmas.List.append-nil, lemmas.Grind.common_steps}
use Rattle.adf_base.specs.declared.hash.Letters.TheVariants.{Ascii}
use Rattle.adf_tree.specs.{Additions.Addition, Additions.IsTreeOf, Tree.Tree}
use Rattle.adf_tree.proofs.{TreeOfAdditions.grown, TreeOfAdditions.nothing_added, OneTreeOfAdditions.one_tree}
use Rattle.adf_manifest.specs.Items.{HaveRoom, Item, addition_of, items_tree, with_item}
use Rattle.adf_manifest.specs.Manifest.{IsTreeOfManifest, IsWell, Manifest, preamble_tree, items_of, manifest_tree}

-- a tree without its entries is as it was before some were added
bare_tree : (t : Tree) (items : List Item) → record (items_tree t items) { entries = [] } ≡ record t { entries = [] }
unfolding items_tree
bare_tree t [] = refl
bare_tree t (i ∷ items) = bare_tree (with_item t i) items

-- the tree of additions, with one entry after another
grown_by : (t : Tree) (before : List Addition) (items : List Item) → IsTreeOf t.entries before → HaveRoom t items
    → IsTreeOf (items_tree t items).entries (before ++ map addition_of items)
unfolding items_tree HaveRoom
grown_by t before [] h room = subst (λ (xs : List Addition). IsTreeOf t.entries xs) (sym (append-nil before)) h
grown_by t before (i ∷ items) h room =
    let more : IsTreeOf (with_item t i).entries (before ++ addition_of i ∷ []) = grown t.entries before (addition_of i) h room.0 in
    subst (λ (xs : List Addition). IsTreeOf (items_tree (with_item t i) items).entries xs)
    (append_assoc before (addition_of i ∷ []) (map addition_of items))
    (grown_by (with_item t i) (before ++ addition_of i ∷ []) items more room.1)

pub adding_lines : (m : Manifest) → IsWell m → IsTreeOfManifest (manifest_tree m) m
adding_lines m w = record {
  preamble = bare_tree (preamble_tree m.preamble) (items_of m.entries);
  entries = grown_by (preamble_tree m.preamble) [] (items_of m.entries) nothing_added w.room;
}

-- a manifest has one tree
of_parts : (t u : Tree) → record t { entries = [] } ≡ record u { entries = [] } → t.entries ≡ u.entries → t ≡ u
of_parts t u e g = ap (λ (v : Tree). record v { entries = t.entries }) e ∙ ap (λ es. record u { entries = es }) g

pub one_tree_of : (m : Manifest) (t u : Tree) → IsTreeOfManifest t m → IsTreeOfManifest u m → t ≡ u
one_tree_of m t u g h = grind (arith, common_steps, of_parts, one_tree t.entries u.entries (map addition_of (items_of m.entries)) g.entries h.entries)

pub manifest_letters : (m : Manifest) (t : Tree) → IsTreeOfManifest t m → t.letters ≡ Ascii
manifest_letters m t is = ap (λ (u : Tree). u.letters) is.preamble

-- what is read as the tree that adding gives is the tree of the manifest
pub added_tree : (m : Manifest) (t : Tree) → IsWell m → t ≡ manifest_tree m → IsTreeOfManifest t m
added_tree m t w e = rw e (adding_lines m w)
