-- The entries of a manifest, and the tree of a list of them.
use Rattle.std.specs.Prelude.{◌≡◌, ◌<◌, ◌^◌, ℕ, List, [], ◌∷◌, ◌++◌, length, map, All, Option, Some, None, IfSome, IsOk, replicate}
use Rattle.std.specs.{List.flat_map, Option.unwrap_or}
use Rattle.adf_base.specs.{declared.dates.Stamp.Stamp, Dates.IsStamp}
use Rattle.adf_names.specs.{Escapes.IsSpelling, Escapes.escaped, PathTexts.IsName, PathTexts.path_text, Meta.new_meta, declared.meta.Meta.Meta}
use Rattle.adf_tree.specs.{Additions.Addition, Tree.Tree, Tree.room_for, Tree.with_entry, declared.entry.Body.Body}
use Rattle.adf_tree.specs.declared.entry.Body.TheVariants as body
use Rattle.adf_manifest.specs.Lines.{IsRun, RunValue, DataRun, FillRun, entry_line, note_line, run_line}
use Rattle.adf_manifest.specs.declared.lines.Sort.{Sort, TheVariants.Dir, TheVariants.File}

-- an entry of a manifest: the fields of its line, its note, and the bytes from the lines of a file
pub record Item : Type 0 where
  pub sort : Sort
  pub stamp : Stamp
  pub protect : ℕ
  pub path : List (List ℕ)
  pub note : Option (List ℕ)
  pub runs : List RunValue

-- the line of a note, if the entry has one
abbrev pub note_lines : Option (List ℕ) → List (List ℕ)
note_lines None = []
note_lines (Some note) = note_line (escaped note) ∷ []

-- the lines of an entry: its own, its note's, and its data and fill lines
abbrev pub item_lines : Item → List (List ℕ)
item_lines i = entry_line i.sort i.stamp i.protect (path_text i.path) ∷ (note_lines i.note ++ map run_line i.runs)

-- a note from a line: 1 to 79 bytes
abbrev pub IsGivenNote : List ℕ → Type 0
IsGivenNote note = (0 < length note) × IsSpelling 79 (escaped note) note

-- the fields of an entry are within their limits, and a directory has no bytes
pub record IsItem (i : Item) : Type 0 where
  pub stamp : IsStamp i.stamp
  pub protect : i.protect < 2 ^ 32
  pub filled : 0 < length i.path
  pub names : All IsName i.path
  pub note : IfSome i.note IsGivenNote
  pub runs : All IsRun i.runs
  pub plain : i.sort ≡ Dir → i.runs ≡ []

-- the bytes that a data or fill line adds
abbrev pub run_bytes : RunValue → List ℕ
run_bytes (DataRun bytes) = bytes
run_bytes (FillRun count byte) = replicate count byte

-- the bytes of a file: those of its lines, joined in order
abbrev pub bytes_of_runs : List RunValue → List ℕ
bytes_of_runs runs = flat_map run_bytes runs

-- the body of an entry with this first word and these bytes
abbrev pub body_of_sort : Sort → List ℕ → Body
body_of_sort Dir bytes = body.Dir
body_of_sort File bytes = body.File bytes

-- the metadata of an entry: its comment, protection bits and date
abbrev pub item_meta : Item → Meta
item_meta i = new_meta (unwrap_or i.note []) i.protect i.stamp

-- the body of an entry: a directory, or a file with the bytes of its lines
abbrev pub item_body : Item → Body
item_body i = body_of_sort i.sort (bytes_of_runs i.runs)

-- the addition for an item
abbrev pub addition_of : Item → Addition
addition_of i = record { path = i.path; meta = item_meta i; body = item_body i }

-- a tree after `add` of the entry of an item
abbrev pub with_item : Tree → Item → Tree
with_item t i = with_entry t i.path (item_meta i) (item_body i)

-- the tree after the items are added one after another
unfoldable pub items_tree : Tree → List Item → Tree
items_tree t [] = t
items_tree t (i ∷ items) = items_tree (with_item t i) items

-- each of the entries has room in the tree of those before it
unfoldable pub HaveRoom : Tree → List Item → Type 0
HaveRoom t [] = Unit {0}
HaveRoom t (i ∷ items) = IsOk (room_for t.entries i.path) × HaveRoom (with_item t i) items
