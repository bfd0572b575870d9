-- The state of the reader of a manifest.
use Rattle.std.specs.Prelude.{◌≡◌, ◌++◌, ◌∷◌, ℕ, List, [], Some, None}
use Rattle.adf_drafts.specs.Draft.{IsRoomFor}
use Rattle.adf_tree.specs.Tree.{Tree}
use Rattle.adf_manifest.specs.{Lines.LineValue, Manifest.manifest_lines, Manifest.manifest_tree, declared.reader.Preamble.Preamble}
use Rattle.adf_manifest.specs.{declared.reader.LastEntry.LastEntry, declared.reader.Reading.Reading, declared.reader.State.State}
use Rattle.adf_manifest.specs.Items.{Item, bytes_of_runs, items_tree}
use Rattle.adf_manifest.specs.Manifest.{Entries, HasFault, IsFaultOf, IsLaterFault, IsWell, Manifest, MayStand, MayTakeMemory, TakesMemory, preamble_tree}
use Rattle.adf_manifest.specs.declared.manifest.ManifestKind.{ManifestKind, TheVariants.BadLine, TheVariants.NoMemory}
use Rattle.adf_manifest.specs.declared.reader.State.TheVariants as state

-- the entry under construction is this item so far
pub record IsLastEntry (o : LastEntry) (i : Item) : Type 0 where
  pub sort : o.sort ≡ i.sort
  pub stamp : o.stamp ≡ i.stamp
  pub protect : o.protect ≡ i.protect
  pub note : o.note ≡ i.note
  pub bytes : o.bytes.items ≡ bytes_of_runs i.runs

-- after an entry line: the tree of the entries before the last, and the last, which has room in it
pub record IsReading (r : Reading) (m : Manifest) (e : Entries) : Type 0 where
  pub entries : m.entries ≡ Some e
  pub blocks : r.blocks ≡ m.preamble.blocks
  pub tree : r.draft.tree ≡ items_tree (preamble_tree m.preamble) e.before
  pub last : IsLastEntry r.last e.last
  pub room : IsRoomFor r.draft e.last.path r.last.room

-- the manifest of a preamble alone
abbrev pub bare : Preamble → Manifest
bare h = record { preamble = h; entries = None }

-- the state is that of this manifest
abbrev pub StateMatches : State → Manifest → Type 0
StateMatches (state.Preamble h) m = m ≡ bare h
StateMatches (state.Entries r) m = (e : Entries) × IsReading r m e

-- the state is that of this manifest and one more line
abbrev pub HasNextLine : State → Manifest → List ℕ → Type 0
HasNextLine s m text = (n : Manifest) × IsWell n × StateMatches s n × (manifest_lines n ≡ manifest_lines m ++ text ∷ [])

-- why a line with an allowed form is refused: its fault, or memory
abbrev pub StopsIn : Tree → LineValue → ManifestKind → Type 0
StopsIn tree line NoMemory = TakesMemory line
StopsIn tree line kind = IsFaultOf tree line kind

-- why a line with a form is refused
abbrev pub Stops : Manifest → LineValue → ManifestKind → Type 0
Stops m line BadLine = ¬ MayStand m line
Stops m line kind = MayStand m line × StopsIn (manifest_tree m) line kind

-- why a line is refused
abbrev pub StopsAt : Manifest → List ℕ → ManifestKind → Type 0
StopsAt m text NoMemory = MayTakeMemory m text
StopsAt m text kind = IsLaterFault m text kind

-- the line of a fault: 0 for `NoMemory`
abbrev pub line_of_fault : ManifestKind → ℕ → ℕ
line_of_fault NoMemory number = 0
line_of_fault kind number = number

-- the meaning of a fault of lines
abbrev pub ExplainsLines : ManifestKind → ℕ → List (List ℕ) → Type 0
ExplainsLines NoMemory number all = number ≡ 0
ExplainsLines kind number all = HasFault all number kind
