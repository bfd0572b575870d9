-- Trees as lists of additions.
use Rattle.std.specs.Prelude.{◌==◌, ◌-◌, ℕ, List, [], ◌∷◌, ◌++◌, fold, if◌then◌else◌, Option, Some, None}
use Rattle.std.specs.List.{slice_get}
use Rattle.adf_base.specs.declared.hash.Letters.{Letters, TheVariants.Ascii}
use Rattle.adf_names.specs.{declared.kind.Kind.Kind, declared.meta.Stamps.Stamps}
use Rattle.adf_tree.specs.{declared.entry.Entry.Entry, Additions.Addition, Additions.entries_of_additions_by, Additions.with_addition_by, Tree.Tree}

-- the value of an outline: the kind, label and dates of a tree, and its additions
pub record OutlineValue : Type 0 where
  pub kind : Kind
  pub label : List ℕ
  pub stamps : Stamps
  pub additions : List Addition

-- the path of the addition at a place, no names if there is none
abbrev pub path_or_root : Option Addition → List (List ℕ)
path_or_root None = []
path_or_root (Some x) = x.path

-- the path of a node, where these are the additions of the entries before the next
abbrev pub path_at : List Addition → ℕ → List (List ℕ)
path_at xs n = if n == 0 then [] else path_or_root (slice_get xs (n - 1))

-- the addition of the next entry: its name behind the path of its parent
abbrev pub addition_for : List Addition → Entry → Addition
addition_for xs e = record { path = path_at xs e.parent ++ e.name ∷ []; meta = e.meta; body = e.body }

-- the additions of one entry more
abbrev pub with_addition_for : List Addition → Entry → List Addition
with_addition_for xs e = xs ++ addition_for xs e ∷ []

-- the additions of the entries of a tree, in their order
abbrev pub tree_additions : List Entry → List Addition
tree_additions es = fold with_addition_for [] es

-- the outline of a tree
abbrev pub outline_of : Tree → OutlineValue
outline_of t = record { kind = t.kind; label = t.label; stamps = t.stamps; additions = tree_additions t.entries }

-- the tree that `add` makes of an outline by these letters
abbrev pub tree_of_outline_by : Letters → OutlineValue → Tree
tree_of_outline_by letters o =
    let entries = entries_of_additions_by letters o.additions in
    record { kind = o.kind; letters = letters; label = o.label; stamps = o.stamps; entries = entries }

-- an outline of these additions alone
abbrev pub with_first : OutlineValue → List Addition → OutlineValue
with_first o xs = record o { additions = xs }

-- a tree after `add` of one addition more
abbrev pub with_addition_in : Tree → Addition → Tree
with_addition_in t x = record t { entries = with_addition_by t.letters t.entries x }

-- by ASCII letters

abbrev pub tree_of_outline : OutlineValue → Tree
tree_of_outline = tree_of_outline_by Ascii
