-- Trees. What depends on letters takes them first: those whose case is ignored in names.
use Rattle.std.specs.Prelude.{◌≡◌, ℕ, ◌+◌, ◌-◌, ◌*◌, ◌<◌, ◌≤◌, ◌≢◌, ◌==◌, ◌&&◌, nat_lt, nat_le, Bool, List, [], ◌∷◌, ◌++◌, if◌then◌else◌, length, map, take}
use Rattle.std.specs.Prelude.{drop, Option, Some, None, slice_index_or, position, option_map, ◌||◌, true, false, Result, Ok, Err, IsOk, MatchResult}
use Rattle.std.specs.{List.position_or_len, List.All, List.AllPairs, List.slice_get, List.Sorted.IsNonDecreasingBy, Str.bytes_eq, Option.unwrap_or}
use Rattle.adf_base.specs.{Hash.slot_by, declared.hash.Letters.Letters, declared.hash.Letters.TheVariants.Ascii}
use Rattle.adf_names.specs.{Texts.uppers_by, declared.kind.Kind.Kind, declared.meta.Stamps.Stamps, declared.meta.Meta.Meta}
use Rattle.adf_tree.specs.{declared.entry.Entry.Entry, Faults.add_fault, declared.tree.AddFault.AddFault, declared.tree.AddFault.TheVariants.NoMemory}
use Rattle.adf_tree.specs.declared.tree.RoomFault.{RoomFault, TheVariants.EmptyPath, TheVariants.NoParent, TheVariants.ParentIsFile, TheVariants.Exists}
use Rattle.adf_tree.specs.declared.entry.Body.{Body, TheVariants.Dir, TheVariants.File}

-- a tree: its kind, the letters whose case is ignored in its names, its label and dates, and its entries, numbered from 1
pub record Tree : Type 0 where
  pub kind : Kind
  pub letters : Letters
  pub label : List ℕ
  pub stamps : Stamps
  pub entries : List Entry

-- the entries of a tree, numbered from 1, and the letters whose case is ignored in their names
pub record TreeEntries : Type 0 where
  pub letters : Letters
  pub entries : List Entry

-- a parent and a slot as one number, in walk order
abbrev pub rank_of : ℕ → ℕ → ℕ
rank_of parent slot = 72 * parent + slot

-- the parent and slot of an entry as one number
abbrev pub rank_by : Letters → Entry → ℕ
rank_by letters e = rank_of e.parent (slot_by letters e.name)

-- node p is a directory: the root, or the entry of one
abbrev pub IsDir : List Entry → ℕ → Type 0
IsDir es p = 0 < p → (p ≤ length es) × ((d : Entry) → (slice_index_or es (p - 1) d).body ≡ Dir)

-- two entries do not have the same parent and the same name, ignoring case
abbrev pub AreApartBy : Letters → Entry → Entry → Type 0
AreApartBy letters e f = e.parent ≡ f.parent → uppers_by letters e.name ≢ uppers_by letters f.name

-- the invariant of the entries of a tree; the entry at index i has the number i + 1
pub record IsTreeBy (letters : Letters) (es : List Entry) : Type 0 where
  pub parents : (i : ℕ) (d : Entry) → i < length es → (slice_index_or es i d).parent ≤ i
  pub dirs : (i : ℕ) (d : Entry) → i < length es → IsDir es (slice_index_or es i d).parent
  pub order : IsNonDecreasingBy (rank_by letters) es
  pub names : AllPairs (AreApartBy letters) es

-- whether an entry has this parent and this name, ignoring case
abbrev pub is_child_by : Letters → ℕ → List ℕ → Entry → Bool
is_child_by letters parent name e = (e.parent == parent) && bytes_eq (uppers_by letters e.name) (uppers_by letters name)

-- the number of the entry with this parent and name
abbrev pub child_by : Letters → List Entry → ℕ → List ℕ → Option ℕ
child_by letters es parent name = option_map (λ i. i + 1) (position (is_child_by letters parent name) es)

-- the number of entries of at most this parent and slot
abbrev pub place_by : Letters → List Entry → ℕ → ℕ
place_by letters es r = position_or_len (λ e. nat_lt r (rank_by letters e)) es

-- the new number of entry p after an insertion at number n
abbrev pub moved : ℕ → ℕ → ℕ
moved n p = if nat_le n p then p + 1 else p

-- an entry after an insertion at number n
abbrev pub moved_entry : ℕ → Entry → Entry
moved_entry n e = record e { parent = moved n e.parent }

-- the entries with e inserted after all entries of the same or a lower parent and slot
abbrev pub added_by : Letters → List Entry → Entry → List Entry
added_by letters es e = let i = place_by letters es (rank_by letters e) in take i es ++ e ∷ map (moved_entry (i + 1)) (drop i es)

-- an entry may be added: its parent is a directory with no entry of its name
pub record MayAddBy (letters : Letters) (es : List Entry) (e : Entry) : Type 0 where
  pub parent : IsDir es e.parent
  pub fresh : (i : ℕ) (d : Entry) → i < length es → AreApartBy letters (slice_index_or es i d) e

-- whether an entry is a directory
abbrev pub is_dir_body : Body → Bool
is_dir_body Dir = true
is_dir_body (File _) = false

-- the entry with this number
abbrev pub entry : List Entry → ℕ → Option Entry
entry es n = if n == 0 then None else slice_get es (n - 1)

-- whether a node is a directory
abbrev pub is_dir : List Entry → ℕ → Bool
is_dir es n = (n == 0) || unwrap_or (option_map (λ e. is_dir_body e.body) (entry es n)) false

-- the node that a path leads to from the node p
abbrev pub find_from_by : Letters → List Entry → ℕ → List (List ℕ) → Option ℕ
find_from_by letters es p [] = Some p
find_from_by letters es p (name ∷ names) = elim (child_by letters es p name) [ None ↦ None | Some n ↦ find_from_by letters es n names ]

-- the node that a path leads to
abbrev pub find_by : Letters → List Entry → List (List ℕ) → Option ℕ
find_by letters es path = find_from_by letters es 0 path

-- the directory that a path leads to from the directory p, or the fault
abbrev pub directory_from_by : Letters → List Entry → ℕ → List (List ℕ) → Result ℕ RoomFault
directory_from_by letters es p [] = Ok p
directory_from_by letters es p (name ∷ names) =
    elim (child_by letters es p name) [
      | None ↦ Err NoParent
      | Some n ↦ if is_dir es n then directory_from_by letters es n names else Err ParentIsFile
    ]

-- a path without its last name
abbrev pub parents_of : List (List ℕ) → List (List ℕ)
parents_of path = take (length path - 1) path

-- the last name of a path
abbrev pub last_of : List (List ℕ) → List ℕ
last_of path = slice_index_or path (length path - 1) []

-- the directory p, if the look-up in it found nothing
abbrev pub free_in : ℕ → Option ℕ → Result ℕ RoomFault
free_in p None = Ok p
free_in p (Some n) = Err Exists

-- the directory, if it has no entry of this name
abbrev pub room_at_by : Letters → List Entry → List ℕ → Result ℕ RoomFault → Result ℕ RoomFault
room_at_by letters es name (Ok p) = free_in p (child_by letters es p name)
room_at_by letters es name (Err f) = Err f

-- the directory that a path is added to, or the fault
abbrev pub room_for_by : Letters → List Entry → List (List ℕ) → Result ℕ RoomFault
room_for_by letters es path =
    if length path == 0 then Err EmptyPath else room_at_by letters es (last_of path) (directory_from_by letters es 0 (parents_of path))

-- the number of the directory
abbrev pub in_directory : Result ℕ RoomFault → ℕ
in_directory (Ok p) = p
in_directory (Err _) = 0

-- the entry that is added: the last name of the path, in the directory that the names before it lead to
abbrev pub new_entry_by : Letters → List Entry → List (List ℕ) → Meta → Body → Entry
new_entry_by letters es path meta body =
    record { parent = in_directory (room_for_by letters es path); name = last_of path; meta = meta; body = body }

-- an entry is last in walk order
abbrev pub IsLastBy : Letters → List Entry → Entry → Type 0
IsLastBy letters es e = All (λ x. rank_by letters x ≤ rank_by letters e) es

-- a tree with one more entry at the end
abbrev pub with_last : Tree → Entry → Tree
with_last t e = record t { entries = t.entries ++ e ∷ [] }

-- entries with one more at the end
abbrev pub with_last_entry : TreeEntries → Entry → TreeEntries
with_last_entry t e = record t { entries = t.entries ++ e ∷ [] }

-- entries with one more, added under a path
abbrev pub with_added : TreeEntries → List (List ℕ) → Meta → Body → TreeEntries
with_added t path meta body = record t { entries = added_by t.letters t.entries (new_entry_by t.letters t.entries path meta body) }

-- a tree with this kind
abbrev pub with_kind : Tree → Kind → Tree
with_kind t kind = record t { kind = kind }

-- a tree with one more entry, added under a path
abbrev pub with_entry_by : Letters → Tree → List (List ℕ) → Meta → Body → Tree
with_entry_by letters t path meta body = record t { entries = added_by letters t.entries (new_entry_by letters t.entries path meta body) }

-- the allowed results of `add`: the fault of the path, or `NoMemory` if it has none
abbrev pub IsAnswer : Result ℕ RoomFault → Result (Unit {0}) AddFault → Type 0
IsAnswer room r = MatchResult r (λ _. IsOk room) (λ f. MatchResult room (λ _. f ≡ NoMemory) (λ g. f ≡ add_fault g))

-- by ASCII letters

abbrev pub IsTree : List Entry → Type 0
IsTree = IsTreeBy Ascii

abbrev pub is_child : ℕ → List ℕ → Entry → Bool
is_child = is_child_by Ascii

abbrev pub child : List Entry → ℕ → List ℕ → Option ℕ
child = child_by Ascii

abbrev pub added : List Entry → Entry → List Entry
added = added_by Ascii

abbrev pub find_from : List Entry → ℕ → List (List ℕ) → Option ℕ
find_from = find_from_by Ascii

abbrev pub find : List Entry → List (List ℕ) → Option ℕ
find = find_by Ascii

abbrev pub directory_from : List Entry → ℕ → List (List ℕ) → Result ℕ RoomFault
directory_from = directory_from_by Ascii

abbrev pub room_at : List Entry → List ℕ → Result ℕ RoomFault → Result ℕ RoomFault
room_at = room_at_by Ascii

abbrev pub room_for : List Entry → List (List ℕ) → Result ℕ RoomFault
room_for = room_for_by Ascii

abbrev pub new_entry : List Entry → List (List ℕ) → Meta → Body → Entry
new_entry = new_entry_by Ascii

abbrev pub with_entry : Tree → List (List ℕ) → Meta → Body → Tree
with_entry = with_entry_by Ascii
