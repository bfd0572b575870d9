-- Manifests: the lines of their preambles and entries, their content, and the first line with a fault.
use Rattle.std.specs.Prelude.{◌≡◌, ◌≢◌, ◌+◌, ◌-◌, ◌<◌, ◌≤◌, ◌^◌, ◌==◌, ◌&&◌, ◌⊎◌, nat_lt, ℕ, true, false, List, [], ◌∷◌, ◌++◌, length, take, slice_index}
use Rattle.std.specs.Prelude.{if◌then◌else◌, map, Option, Some, None, IfSome, All, Err}
use Rattle.std.specs.{List.slice_split, List.flat_map, Option.unwrap_or}
use Rattle.adf_base.specs.declared.hash.Letters.TheVariants.{Ascii}
use Rattle.adf_names.specs.{Escapes.IsSpelling, Escapes.escaped, PathTexts.IsPathText, declared.kind.Kind.Kind, declared.meta.Stamps.Stamps, Meta.AreStamps}
use Rattle.adf_tree.specs.{Additions.IsTreeOf, Bounds.IsBounded, Tree.IsTree, Tree.Tree, Tree.room_for, declared.tree.RoomFault.RoomFault}
use Rattle.adf_names.specs.declared.meta.TheConstants.{NO_STAMPS}
use Rattle.adf_tree.specs.declared.tree.RoomFault.TheVariants as room
use Rattle.adf_blocks.specs.Sizes.{is_plain_size}
use Rattle.adf_manifest.specs.Lines.{IsLine, IsVolumeLine, LineValue, LabelLine, StampsLine, EntryLine, NoteLine, RunLine, label_line, line_text, stamps_line}
use Rattle.adf_manifest.specs.{Lines.volume_line, Items.HaveRoom, Items.IsItem, Items.Item, Items.addition_of, Items.item_lines, Items.items_tree}
use Rattle.adf_manifest.specs.{declared.lines.Sort.TheVariants.File, declared.reader.Preamble.Preamble, declared.manifest.ManifestFault.ManifestFault}
use Rattle.adf_manifest.specs.{declared.manifest.TheConstants.MOST_BYTES, declared.manifest.ManifestKind.ManifestKind}
use Rattle.adf_manifest.specs.declared.manifest.ManifestKind.TheVariants.{BadLine, BadSize, BadText, NoParent, ParentIsFile, Exists, NoMemory, TooLong}

-- the most bytes of a manifest
abbrev pub most_bytes : ℕ
most_bytes = MOST_BYTES

-- the bytes without a line feed at the end
abbrev pub without_last_feed : List ℕ → List ℕ
without_last_feed bytes = if nat_lt 0 (length bytes) && (slice_index bytes (length bytes - 1) == 10) then take (length bytes - 1) bytes else bytes

-- the parts between line feeds
abbrev pub between_feeds : List ℕ → List (List ℕ)
between_feeds bytes = slice_split (λ c. c == 10) bytes

-- the lines after a line feed, if there was one
abbrev pub lines_behind : Option (List ℕ) → List (List ℕ)
lines_behind None = []
lines_behind (Some rest) = between_feeds rest

-- the lines: each ends in a line feed, which the last may lack; no bytes are one empty line
abbrev pub lines : List ℕ → List (List ℕ)
lines bytes = between_feeds (without_last_feed bytes)

-- the line of a label, if there is one
abbrev pub label_lines : Option (List ℕ) → List (List ℕ)
label_lines None = []
label_lines (Some label) = label_line (escaped label) ∷ []

-- the line of stamps, if there is one
abbrev pub stamps_lines : Option Stamps → List (List ℕ)
stamps_lines None = []
stamps_lines (Some stamps) = stamps_line stamps ∷ []

-- the lines of a preamble: the volume, then the label, then the stamps
abbrev pub preamble_lines : Preamble → List (List ℕ)
preamble_lines h = volume_line h.kind h.blocks ∷ (label_lines h.label ++ stamps_lines h.stamps)

-- a label from a line: 1 to 30 bytes
abbrev pub IsGivenLabel : List ℕ → Type 0
IsGivenLabel label = (0 < length label) × IsSpelling 30 (escaped label) label

-- the fields of a preamble are within their limits
pub record IsPreamble (h : Preamble) : Type 0 where
  pub size : is_plain_size h.blocks ≡ true
  pub label : IfSome h.label IsGivenLabel
  pub stamps : IfSome h.stamps AreStamps

-- the tree of a preamble: without a label line the label is empty, without a stamps line all dates are 0
abbrev pub preamble_tree : Preamble → Tree
preamble_tree h =
    record { kind = h.kind; letters = Ascii; label = unwrap_or h.label []; stamps = unwrap_or h.stamps NO_STAMPS; entries = [] }

-- the entries of a manifest that has any: those before the last, and the last
pub record Entries : Type 0 where
  pub before : List Item
  pub last : Item

-- the content of a manifest
pub record Manifest : Type 0 where
  pub preamble : Preamble
  pub entries : Option Entries

-- all entries, including the last
abbrev pub items_of : Option Entries → List Item
items_of None = []
items_of (Some e) = e.before ++ e.last ∷ []

-- the lines of a manifest: those of its preamble, and those of its entries
abbrev pub manifest_lines : Manifest → List (List ℕ)
manifest_lines m = preamble_lines m.preamble ++ flat_map item_lines (items_of m.entries)

-- the tree after the entries are added one after another
abbrev pub manifest_tree : Manifest → Tree
manifest_tree m = items_tree (preamble_tree m.preamble) (items_of m.entries)

-- the content is within its limits, and each entry has room in the tree of those before it
pub record IsWell (m : Manifest) : Type 0 where
  pub preamble : IsPreamble m.preamble
  pub items : All IsItem (items_of m.entries)
  pub room : HaveRoom (preamble_tree m.preamble) (items_of m.entries)

-- the tree of a manifest: it has the kind, the label and the dates of the preamble; its entries have the paths of the
-- entry lines and no others, and each chain has its entries in the order of the lines
pub record IsTreeOfManifest (tree : Tree) (m : Manifest) : Type 0 where
  pub preamble : record tree { entries = [] } ≡ preamble_tree m.preamble
  pub entries : IsTreeOf tree.entries (map addition_of (items_of m.entries))

-- the bytes are a manifest of this tree and this number of blocks
abbrev pub IsManifest : List ℕ → Tree → ℕ → Type 0
IsManifest bytes tree n =
    (length bytes ≤ most_bytes) × ((m : Manifest) × IsWell m × (lines bytes ≡ manifest_lines m) × IsTreeOfManifest tree m × (n ≡ m.preamble.blocks))

-- the last entry has neither a note nor bytes; it is a file
abbrev pub IsBare : Option Entries → Type 0
IsBare None = ⊥
IsBare (Some e) = (e.last.note ≡ None) × (e.last.runs ≡ [])

-- the last entry is a file
abbrev pub EndsInFile : Option Entries → Type 0
EndsInFile None = ⊥
EndsInFile (Some e) = e.last.sort ≡ File

-- a line is allowed after the lines of a manifest: a label line if there is no label, stamps or entry, a stamps line
-- if there are no stamps or entries, an entry line always, a note line directly after an entry line,
-- a data or fill line in a file
abbrev pub MayStand : Manifest → LineValue → Type 0
MayStand m (LabelLine text) = (m.entries ≡ None) × (m.preamble.label ≡ None) × (m.preamble.stamps ≡ None)
MayStand m (StampsLine stamps) = (m.entries ≡ None) × (m.preamble.stamps ≡ None)
MayStand m (EntryLine sort stamp protect path) = Unit {0}
MayStand m (NoteLine text) = IsBare m.entries
MayStand m (RunLine run) = EndsInFile m.entries

-- the TEXT or PATH of a line is not in the escape form, is too long, or has a part that is not a name
abbrev pub HasBadText : LineValue → Type 0
HasBadText (LabelLine text) = (label : List ℕ) → ¬ IsSpelling 30 text label
HasBadText (StampsLine stamps) = ⊥
HasBadText (EntryLine sort stamp protect text) = (path : List (List ℕ)) → ¬ IsPathText text path
HasBadText (NoteLine text) = (note : List ℕ) → ¬ IsSpelling 79 text note
HasBadText (RunLine run) = ⊥

-- the path of an entry line has no room in the tree of the lines before it
abbrev pub HasNoRoom : Tree → LineValue → RoomFault → Type 0
HasNoRoom tree (EntryLine sort stamp protect text) f = (path : List (List ℕ)) × IsPathText text path × (room_for tree.entries path ≡ Err f)
HasNoRoom tree (LabelLine text) f = ⊥
HasNoRoom tree (StampsLine stamps) f = ⊥
HasNoRoom tree (NoteLine text) f = ⊥
HasNoRoom tree (RunLine run) f = ⊥

-- the fault of a line that is allowed at its place, after lines with this tree
abbrev pub IsFaultOf : Tree → LineValue → ManifestKind → Type 0
IsFaultOf tree line BadText = HasBadText line
IsFaultOf tree line NoParent = HasNoRoom tree line room.NoParent
IsFaultOf tree line ParentIsFile = HasNoRoom tree line room.ParentIsFile
IsFaultOf tree line Exists = HasNoRoom tree line room.Exists
IsFaultOf tree line _ = ⊥

-- the fault of a first line
abbrev pub IsFirstLineFault : List ℕ → ManifestKind → Type 0
IsFirstLineFault text BadLine = ¬ IsVolumeLine text
IsFirstLineFault text BadSize = (kind : Kind) × (n : ℕ) × (n < 2 ^ 32) × (text ≡ volume_line kind n) × (is_plain_size n ≡ false)
IsFirstLineFault text _ = ⊥

-- a text is a line that is allowed after the lines of a manifest
pub record MayStandNext (m : Manifest) (text : List ℕ) : Type 0 where
  pub line : LineValue
  pub is_line : IsLine line
  pub stands : MayStand m line
  pub reads : text ≡ line_text line

-- a text is a line that is allowed there, and has this fault
pub record HasFaultOf (m : Manifest) (text : List ℕ) (kind : ManifestKind) : Type 0 where
  pub line : LineValue
  pub is_line : IsLine line
  pub stands : MayStand m line
  pub reads : text ≡ line_text line
  pub fault : IsFaultOf (manifest_tree m) line kind

-- reading the line may take memory: it is that of an entry, or of bytes
abbrev pub TakesMemory : LineValue → Type 0
TakesMemory (EntryLine sort stamp protect text) = Unit {0}
TakesMemory (LabelLine text) = ⊥
TakesMemory (StampsLine stamps) = ⊥
TakesMemory (NoteLine text) = ⊥
TakesMemory (RunLine run) = Unit {0}

-- a text is a line that is allowed there, and reading it may take memory
pub record MayTakeMemory (m : Manifest) (text : List ℕ) : Type 0 where
  pub line : LineValue
  pub is_line : IsLine line
  pub stands : MayStand m line
  pub reads : text ≡ line_text line
  pub takes : TakesMemory line

-- the fault of a line after those of a manifest
abbrev pub IsLaterFault : Manifest → List ℕ → ManifestKind → Type 0
IsLaterFault m text BadLine = ¬ MayStandNext m text
IsLaterFault m text BadText = HasFaultOf m text BadText
IsLaterFault m text NoParent = HasFaultOf m text NoParent
IsLaterFault m text ParentIsFile = HasFaultOf m text ParentIsFile
IsLaterFault m text Exists = HasFaultOf m text Exists
IsLaterFault m text _ = ⊥

-- line 1 has the fault
pub record FaultInFirst (all : List (List ℕ)) (number : ℕ) (kind : ManifestKind) : Type 0 where
  pub text : List ℕ
  pub rest : List (List ℕ)
  pub lines : all ≡ text ∷ rest
  pub place : number ≡ 1
  pub fault : IsFirstLineFault text kind

-- a later line has the fault, and the lines before it are those of a manifest
pub record FaultInLater (all : List (List ℕ)) (number : ℕ) (kind : ManifestKind) : Type 0 where
  pub before : Manifest
  pub text : List ℕ
  pub rest : List (List ℕ)
  pub well : IsWell before
  pub lines : all ≡ manifest_lines before ++ text ∷ rest
  pub place : number ≡ length (manifest_lines before) + 1
  pub fault : IsLaterFault before text kind

-- the first line with a fault, counted from 1, and the first kind there
abbrev pub HasFault : List (List ℕ) → ℕ → ManifestKind → Type 0
HasFault all number kind = FaultInFirst all number kind ⊎ FaultInLater all number kind

-- memory may be short in these lines: at one whose reading may take memory, behind the lines of a manifest, or behind all
abbrev pub CanLackMemory : List (List ℕ) → Type 0
CanLackMemory all =
    (m : Manifest) × IsWell m × ((all ≡ manifest_lines m)
    ⊎ ((text : List ℕ) × (rest : List (List ℕ)) × (all ≡ manifest_lines m ++ text ∷ rest) × MayTakeMemory m text))

-- the meaning of a fault: `TooLong` if and only if the bytes are more than a manifest may have
abbrev pub ExplainsKind : ManifestKind → ℕ → List ℕ → Type 0
ExplainsKind TooLong number bytes = (number ≡ 0) × (most_bytes < length bytes)
ExplainsKind NoMemory number bytes = (number ≡ 0) × (length bytes ≤ most_bytes)
ExplainsKind kind number bytes = (length bytes ≤ most_bytes) × HasFault (lines bytes) number kind

-- the fault is that of the text: its kind, and its line
abbrev pub ExplainsFault : ManifestFault → List ℕ → Type 0
ExplainsFault f bytes = ExplainsKind f.kind f.line bytes

-- the bytes are a manifest, or they have a fault, which is not that of memory
abbrev pub IsManifestOrHasFault : List ℕ → Type 0
IsManifestOrHasFault bytes =
    ((tree : Tree) × (n : ℕ) × IsManifest bytes tree n) ⊎ ((f : ManifestFault) × ExplainsFault f bytes × (f.kind ≢ NoMemory))

-- a manifest has one tree and one number of blocks
abbrev pub ManifestsAreOfOneTree : Type 0
ManifestsAreOfOneTree = (bytes : List ℕ) (tree tree' : Tree) (n n' : ℕ) → IsManifest bytes tree n → IsManifest bytes tree' n' → (tree ≡ tree') × (n ≡ n')

-- the tree of a manifest is a tree whose fields are within their bounds, and its number of blocks is allowed
abbrev pub ManifestsAreBounded : Type 0
ManifestsAreBounded = (bytes : List ℕ) (tree : Tree) (n : ℕ) → IsManifest bytes tree n → IsTree tree.entries × IsBounded tree × (is_plain_size n ≡ true)

-- adding the entry lines of a manifest one after another gives its tree
abbrev pub AddingLinesGivesTheTree : Type 0
AddingLinesGivesTheTree = (m : Manifest) → IsWell m → IsTreeOfManifest (manifest_tree m) m

-- a manifest has no fault
abbrev pub ManifestsAreFaultless : Type 0
ManifestsAreFaultless = (bytes : List ℕ) (tree : Tree) (n number : ℕ) (kind : ManifestKind) → IsManifest bytes tree n → ¬ HasFault (lines bytes) number kind

-- lines have at most one first fault
abbrev pub LinesHaveOneFault : Type 0
LinesHaveOneFault = (all : List (List ℕ)) (number number' : ℕ) (kind kind' : ManifestKind) → HasFault all number kind → HasFault all number' kind'
    → (number ≡ number') × (kind ≡ kind')
