-- Tables of what is added to a new volume.
-- Letters: xs a table; x an addition, and before those that stand before it in the table; n the number of an addition, counted from 1;
-- bytes the contents of the files; t a tree without entries, letters those of its names; d a draft.
use Rattle.std.specs.Prelude.{◌≡◌, ◌≤◌, ◌<◌, ◌+◌, ◌-◌, ◌==◌, ◌&&◌, ℕ, Bool, true, false, not, nat_le, nat_lt, if◌then◌else◌, Option, Some, None, Result, Ok}
use Rattle.std.specs.Prelude.{Err, is_ok, List, [], ◌∷◌, ◌++◌, length, map, take, drop, fold, slice_index_or}
use Rattle.adf_base.specs.{declared.hash.Letters.Letters, declared.dates.Stamp.Stamp}
use Rattle.adf_names.specs.{declared.meta.Meta.Meta, Meta.new_meta, Texts.is_name}
use Rattle.adf_tree.specs.declared.entry.Body.{Body, TheVariants.Dir, TheVariants.File}
use Rattle.adf_tree.specs.{Additions.Addition, Additions.entries_of_additions_by, Tree.Tree, Tree.room_for_by}
use Rattle.adf_drafts.specs.Draft.{DraftValue, IsDirectoryOf}
use Rattle.adf_memory.specs.{declared.tables.Date.Date, declared.table_additions.AdditionFault.AdditionFault}
use Rattle.adf_memory.specs.declared.table_additions.AdditionFault.TheVariants.{NoParent, ParentIsFile, BadName, Exists, BadComment, PastContents}
use Rattle.adf_memory.specs.declared.table_additions.NotAdded.{NotAdded, TheVariants.Fault, TheVariants.NoMemory}
use Rattle.adf_memory.specs.declared.table_additions.TableAddition.{TableAddition}

-- the date of a table
abbrev pub stamp_of : Date → Stamp
stamp_of date = record { days = date.days; mins = date.mins; ticks = date.ticks }

-- the name of an addition
abbrev pub addition_name : TableAddition → List ℕ
addition_name x = take x.name_length x.name

-- the comment, the protection and the date of an addition
abbrev pub meta_in : TableAddition → Meta
meta_in x = new_meta (take x.comment_length x.comment) x.protection (stamp_of x.date)

-- what an addition is: a directory, or a file with its part of the contents
abbrev pub addition_body : List ℕ → TableAddition → Body
addition_body bytes x = if x.is_file == 0 then Dir else File (take x.size (drop x.begin bytes))

-- the path of addition n; 0 is the root
abbrev pub path_numbered : List Addition → ℕ → List (List ℕ)
path_numbered before n = slice_index_or ([] ∷ map (λ a. a.path) before) n []

-- the path of an addition: that of its directory, and its name
abbrev pub addition_path : List Addition → TableAddition → List (List ℕ)
addition_path before x = path_numbered before x.parent ++ addition_name x ∷ []

-- the table with one addition more, each with its path
abbrev pub with_next : List ℕ → List Addition → TableAddition → List Addition
with_next bytes before x = before ++ (record { path = addition_path before x; meta = meta_in x; body = addition_body bytes x }) ∷ []

-- the additions of a table, each with its path
abbrev pub additions_of : List ℕ → List TableAddition → List Addition
additions_of bytes xs = fold (with_next bytes) [] xs

-- the tree with the additions of a table
abbrev pub tree_with : Tree → List ℕ → List TableAddition → Tree
tree_with t bytes xs = record t { entries = entries_of_additions_by t.letters (additions_of bytes xs) }

-- whether addition n is a file
abbrev pub is_file_at : List TableAddition → ℕ → Bool
is_file_at xs n = nat_lt 0 (slice_index_or (0 ∷ map (λ x. x.is_file) xs) n 0)

-- whether an addition has a name that a volume can have
abbrev pub has_entry_name : TableAddition → Bool
has_entry_name x = nat_le x.name_length 30 && is_name (addition_name x)

-- whether its directory has room for an entry of its name: none before it has this name there, ignoring the case of these letters
abbrev pub has_room : Letters → List ℕ → List TableAddition → TableAddition → Bool
has_room letters bytes before x =
    is_ok (room_for_by letters (entries_of_additions_by letters (additions_of bytes before)) (addition_path (additions_of bytes before) x))

-- whether the bytes of an addition, if it is a file, are within the contents
abbrev pub has_bytes : List ℕ → TableAddition → Bool
has_bytes bytes x = if x.is_file == 0 then true else nat_le (x.begin + x.size) (length bytes)

-- the directory of an addition, if it stands before it
abbrev pub directory_in : List TableAddition → TableAddition → Result ℕ AdditionFault
directory_in before x =
    if nat_lt (length before) x.parent then Err NoParent else (if is_file_at before x.parent then Err ParentIsFile else Ok x.parent)

-- the first fault of an addition whose directory stands before it, in this order
abbrev pub fault_in : Letters → List ℕ → List TableAddition → TableAddition → Result ℕ AdditionFault → Option AdditionFault
fault_in letters bytes before x (Err fault) = Some fault
fault_in letters bytes before x (Ok directory) =
    if not (has_entry_name x) then Some BadName else (if not (has_room letters bytes before x) then Some Exists else
    (if nat_lt 79 x.comment_length then Some BadComment else (if not (has_bytes bytes x) then Some PastContents else None)))

-- the first fault of an addition
unfoldable pub fault_of : Letters → List ℕ → List TableAddition → TableAddition → Option AdditionFault
fault_of letters bytes before x = fault_in letters bytes before x (directory_in before x)

-- why an addition is not added: it has a fault, or memory is refused
abbrev pub IsNotAdded : Letters → List ℕ → List TableAddition → TableAddition → NotAdded → Type 0
IsNotAdded letters bytes before x (Fault fault) = fault_of letters bytes before x ≡ Some fault
IsNotAdded letters bytes before x NoMemory = Unit {0}

-- none of the first n additions of the table has a fault
abbrev pub AreSoundBefore : Letters → List ℕ → List TableAddition → ℕ → Type 0
AreSoundBefore letters bytes xs n = (i : ℕ) (d : TableAddition) → i < n → fault_of letters bytes (take i xs) (slice_index_or xs i d) ≡ None

-- no addition of the table has a fault
abbrev pub AreSound : Letters → List ℕ → List TableAddition → Type 0
AreSound letters bytes xs = AreSoundBefore letters bytes xs (length xs)

-- addition n is the first with a fault, and this is its first
pub record IsFirstAdditionFault (letters : Letters) (bytes : List ℕ) (xs : List TableAddition) (n : ℕ) (why : AdditionFault) : Type 0 where
  pub first : 0 < n
  pub within : n ≤ length xs
  pub sound : AreSoundBefore letters bytes xs (n - 1)
  pub fault : (d : TableAddition) → fault_of letters bytes (take (n - 1) xs) (slice_index_or xs (n - 1) d) ≡ Some why

-- a draft is that of the additions of a table to a tree
pub record IsDraftOf (t : Tree) (bytes : List ℕ) (xs : List TableAddition) (d : DraftValue) : Type 0 where
  pub tree : d.tree ≡ tree_with t bytes xs
  pub count : length d.nodes ≡ length xs
  pub directories : (m : ℕ) → m ≤ length xs → is_file_at xs m ≡ false → IsDirectoryOf d (path_numbered (additions_of bytes xs) m) m

-- a draft is that of the additions before one whose directory is addition p of them
pub record IsNextAddition (t : Tree) (bytes : List ℕ) (before : List TableAddition) (x : TableAddition) (p : ℕ) (d : DraftValue) : Type 0 where
  pub draft : IsDraftOf t bytes before d
  pub directory : directory_in before x ≡ Ok p

-- the number of a fault of an addition
abbrev pub addition_fault_number : AdditionFault → ℕ
addition_fault_number NoParent = 5
addition_fault_number ParentIsFile = 6
addition_fault_number BadName = 7
addition_fault_number Exists = 8
addition_fault_number BadComment = 9
addition_fault_number PastContents = 10
