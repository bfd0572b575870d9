-- The bounds of the fields of a tree.
use Rattle.std.specs.Prelude.{◌≡◌, ◌<◌, ◌≤◌, ◌^◌, length, true}
use Rattle.std.specs.List.{All}
use Rattle.adf_tree.specs.declared.entry.Body.{Body, TheVariants.Dir, TheVariants.File}
use Rattle.adf_tree.specs.{declared.entry.Entry.Entry, Tree.Tree}
use Rattle.adf_names.specs.{Meta.AreStamps, Meta.IsBoundedMeta, Texts.is_name}

-- a file has fewer than 2^63 bytes
abbrev pub IsData : Body → Type 0
IsData Dir = Unit {0}
IsData (File bytes) = length bytes < 2 ^ 63

-- the fields of an entry are within their bounds
pub record IsBoundedEntry (e : Entry) : Type 0 where
  pub name : is_name e.name ≡ true
  pub meta : IsBoundedMeta e.meta
  pub body : IsData e.body

-- the fields of a tree are within their bounds
pub record IsBounded (t : Tree) : Type 0 where
  pub label : length t.label ≤ 30
  pub stamps : AreStamps t.stamps
  pub entries : All IsBoundedEntry t.entries
