-- Laws of trees, each the contract of a function in `laws.rt`: by all letters.
use Rattle.std.specs.Prelude.{◌≡◌, ℕ, ◌+◌, ◌-◌, ◌<◌, ◌≤◌, ◌↔◌, List, length, map, take, Some, slice_index_or, Contains, [], ◌∷◌, ◌++◌, IsOk}
use Rattle.adf_base.specs.{Hash.slot_by, declared.hash.Letters.Letters, declared.hash.Letters.TheVariants.Ascii}
use Rattle.adf_names.specs.Texts.{uppers_by}
use Rattle.adf_tree.specs.{declared.entry.Entry.Entry, Chain.chain_by, Paths.names_of, Paths.path_of_by}
use Rattle.adf_tree.specs.Tree.{added_by, child_by, entry, find_by, room_for_by, IsLastBy, IsTreeBy, MayAddBy}
use Rattle.adf_tree.specs.Additions.{entries_of_additions_by, with_addition_by, Addition, AllHaveRoomBy, IsTreeOfBy}

-- an entry is in the chain of its parent and its name's slot, and in no other
abbrev pub IsInBy : Letters → List Entry → ℕ → ℕ → Entry → Type 0
IsInBy letters es p s e = Contains (chain_by letters es p s) e ↔ ((p ≡ e.parent) × (s ≡ slot_by letters e.name))

-- each entry is in the chain of its parent and slot, and in no other
abbrev pub EntriesStandInOneChain : Type 0
EntriesStandInOneChain = (letters : Letters) (es : List Entry) (e : Entry) → Contains es e → (p s : ℕ) → IsInBy letters es p s e

-- names that are equal ignoring case have the same slot
abbrev pub CaseKeepsSlots : Type 0
CaseKeepsSlots = (letters : Letters) (a b : List ℕ) → uppers_by letters a ≡ uppers_by letters b → slot_by letters a ≡ slot_by letters b

-- paths that are equal ignoring case lead to the same node
abbrev pub CaseKeepsPaths : Type 0
CaseKeepsPaths = (letters : Letters) (es : List Entry) (path other : List (List ℕ)) → map (uppers_by letters) path ≡ map (uppers_by letters) other
    → find_by letters es path ≡ find_by letters es other

-- the entry n has this parent and name, and is in the chain of the name's slot
pub record IsChildBy (letters : Letters) (es : List Entry) (p : ℕ) (x : List ℕ) (n : ℕ) (e : Entry) : Type 0 where
  pub entry : entry es n ≡ Some e
  pub parent : e.parent ≡ p
  pub name : uppers_by letters e.name ≡ uppers_by letters x
  pub chain : Contains (chain_by letters es p (slot_by letters x)) e

-- looking up a name finds its entry, and every entry is found
abbrev pub ChildrenAreFound : Type 0
ChildrenAreFound = (letters : Letters) (es : List Entry) (p : ℕ) (name : List ℕ) (n : ℕ) (d : Entry) → IsTreeBy letters es
    → (child_by letters es p name ≡ Some n) ↔ ((0 < n) × (n ≤ length es) × IsChildBy letters es p name n (slice_index_or es (n - 1) d))

-- each entry is found under its path
abbrev pub PathsAreFound : Type 0
PathsAreFound = (letters : Letters) (es : List Entry) (n : ℕ) → IsTreeBy letters es → n ≤ length es
    → find_by letters es (path_of_by letters es n) ≡ Some n

-- each entry is found under its names as written
abbrev pub NamesAreFound : Type 0
NamesAreFound = (letters : Letters) (es : List Entry) (n : ℕ) → IsTreeBy letters es → n ≤ length es → find_by letters es (names_of es n) ≡ Some n

-- the first n entries of a tree are a tree, and the next entry may be added to it, last, which gives the first n + 1
pub record IsNextEntryBy (letters : Letters) (es : List Entry) (n : ℕ) (e : Entry) : Type 0 where
  pub tree : IsTreeBy letters (take n es)
  pub may : MayAddBy letters (take n es) e
  pub last : IsLastBy letters (take n es) e
  pub added : added_by letters (take n es) e ≡ take (n + 1) es

-- each entry of a tree may be added last to the entries before it
abbrev pub TreesGrowInOrder : Type 0
TreesGrowInOrder = (letters : Letters) (es : List Entry) (n : ℕ) (d : Entry) → IsTreeBy letters es → n < length es
    → IsNextEntryBy letters es n (slice_index_or es n d)

-- additions have at most one tree
abbrev pub AdditionsHaveOneTree : Type 0
AdditionsHaveOneTree = (letters : Letters) (es others : List Entry) (additions : List Addition) → IsTreeOfBy letters es additions
    → IsTreeOfBy letters others additions → es ≡ others

-- `add` makes the tree of one addition more
abbrev pub AddingGrowsTheTree : Type 0
AddingGrowsTheTree = (letters : Letters) (es : List Entry) (additions : List Addition) (x : Addition) → IsTreeOfBy letters es additions
    → IsOk (room_for_by letters es x.path) → IsTreeOfBy letters (with_addition_by letters es x) (additions ++ x ∷ [])

-- if all additions have room, `add` builds their tree
abbrev pub AdditionsAreBuilt : Type 0
AdditionsAreBuilt = (letters : Letters) (additions : List Addition) → AllHaveRoomBy letters additions
    → IsTreeOfBy letters (entries_of_additions_by letters additions) additions

-- by ASCII letters
abbrev pub IsNextEntry : List Entry → ℕ → Entry → Type 0
IsNextEntry = IsNextEntryBy Ascii
