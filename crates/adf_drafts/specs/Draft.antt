-- Trees under construction: entries in order of addition, numbered from 1, with parents by these numbers.
-- What depends on the letters whose case is ignored takes them first.
use Rattle.std.specs.Prelude.{◌≡◌, ℕ, ◌+◌, ◌-◌, ◌<◌, ◌≤◌, List, [], ◌∷◌, ◌++◌, Some, Result, Ok, Err, option_map, length, map, fold, slice_index_or}
use Rattle.adf_base.specs.declared.hash.Letters.{Letters}
use Rattle.adf_names.specs.{Texts.uppers_by, declared.kind.Kind.Kind, declared.meta.Stamps.Stamps}
use Rattle.adf_tree.specs.{declared.entry.Entry.Entry, declared.tree.RoomFault.RoomFault, Chain.chain_by}
use Rattle.adf_drafts.specs.{declared.draft.Room.Room, ChildMap.number_in, ChildMap.Numbers}
use Rattle.adf_tree.specs.Tree.{added_by, child_by, directory_from_by, last_of, moved, place_by, rank_by, room_for_by, IsTreeBy, Tree}

-- the tree of the additions, and the number of each addition in it
pub record NumberedTree : Type 0 where
  pub entries : List Entry
  pub nodes : List ℕ

-- the number in the tree of an addition; 0 for the root
abbrev pub addition_node : List ℕ → ℕ → ℕ
addition_node nodes m = slice_index_or (0 ∷ nodes) m 0

-- the entry of an addition, with its parent's number in the tree
abbrev pub in_tree : List ℕ → Entry → Entry
in_tree nodes d = record d { parent = addition_node nodes d.parent }

-- the number in the tree that one more addition gets
abbrev pub new_number : Letters → NumberedTree → Entry → ℕ
new_number letters w d = place_by letters w.entries (rank_by letters (in_tree w.nodes d)) + 1

-- the tree with one more addition
abbrev pub built_more : Letters → NumberedTree → Entry → NumberedTree
built_more letters w d = record {
  entries = added_by letters w.entries (in_tree w.nodes d);
  nodes = map (moved (new_number letters w d)) w.nodes ++ new_number letters w d ∷ [];
}

-- the tree of entries added one after another, and their numbers in it
abbrev pub built : Letters → List Entry → NumberedTree
built letters drafts = fold (built_more letters) (record { entries = []; nodes = [] }) drafts

-- the parent of each addition is the root or an earlier one
abbrev pub HasEarlyParents : List Entry → Type 0
HasEarlyParents drafts = (i : ℕ) (d : Entry) → i < length drafts → (slice_index_or drafts i d).parent ≤ i

-- the invariant of additions and their tree
pub record IsNumberedTree (letters : Letters) (drafts : List Entry) (w : NumberedTree) : Type 0 where
  pub tree : IsTreeBy letters w.entries
  pub count : length w.entries ≡ length drafts
  pub nodes : length w.nodes ≡ length drafts
  pub within : (m : ℕ) → m ≤ length drafts → addition_node w.nodes m ≤ length drafts
  pub apart : (m k : ℕ) → m ≤ length drafts → k ≤ length drafts → addition_node w.nodes m ≡ addition_node w.nodes k → m ≡ k
  pub parents : HasEarlyParents drafts
  pub entries : (m : ℕ) (d : Entry) → 0 < m → m ≤ length drafts
      → slice_index_or w.entries (addition_node w.nodes m - 1) d ≡ in_tree w.nodes (slice_index_or drafts (m - 1) d)
  pub chains : (m s : ℕ) → m ≤ length drafts
      → chain_by letters w.entries (addition_node w.nodes m) s ≡ map (in_tree w.nodes) (chain_by letters drafts m s)

-- each addition's number is found by its parent and name
pub record AreNumbered (letters : Letters) (drafts : List Entry) (w : NumberedTree) (numbers : Numbers) : Type 0 where
  pub within : (m k : ℕ) (name : List ℕ) → number_in numbers m name ≡ Some k → (m ≤ length drafts) × (k ≤ length drafts)
  pub found : (m : ℕ) (name : List ℕ) → m ≤ length drafts
      → child_by letters w.entries (addition_node w.nodes m) name ≡ option_map (addition_node w.nodes) (number_in numbers m (uppers_by letters name))

-- the invariant of a draft
pub record IsDraft (letters : Letters) (drafts : List Entry) (numbers : Numbers) : Type 0 where
  pub gives : IsNumberedTree letters drafts (built letters drafts)
  pub found : AreNumbered letters drafts (built letters drafts) numbers

-- the value of a draft: the tree so far, and the number in it of each addition
pub record DraftValue : Type 0 where
  pub tree : Tree
  pub nodes : List ℕ

-- the value of a draft, from its kind, letters, label, dates and additions
abbrev pub draft_value : Kind → Letters → List ℕ → Stamps → NumberedTree → DraftValue
draft_value kind letters label stamps w = record {
  tree = record { kind = kind; letters = letters; label = label; stamps = stamps; entries = w.entries };
  nodes = w.nodes;
}

-- the room of a path in a draft: its last name, in the directory that the names before it lead to
pub record IsRoomFor (d : DraftValue) (path : List (List ℕ)) (room : Room) : Type 0 where
  pub within : room.parent ≤ length d.nodes
  pub name : room.name ≡ last_of path
  pub leads : room_for_by d.tree.letters d.tree.entries path ≡ Ok (addition_node d.nodes room.parent)

-- addition m of a draft is the directory that the path leads to; 0 is the root
pub record IsDirectoryOf (d : DraftValue) (path : List (List ℕ)) (m : ℕ) : Type 0 where
  pub within : m ≤ length d.nodes
  pub leads : directory_from_by d.tree.letters d.tree.entries 0 path ≡ Ok (addition_node d.nodes m)

-- a directory by number of addition, turned into its number in the tree
abbrev pub room_in_tree : List ℕ → Result ℕ RoomFault → Result ℕ RoomFault
room_in_tree nodes (Ok m) = Ok (addition_node nodes m)
room_in_tree nodes (Err f) = Err f
