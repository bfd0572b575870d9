-- The tree of a list of additions.
use Rattle.std.specs.Prelude.{◌≡◌, ◌≢◌, ℕ, ◌==◌, ◌&&◌, ◌<◌, Bool, List, [], Some, None, length, map, take, fold, slice_index_or, IsOk}
use Rattle.std.specs.{List.All, List.filter, Cmp.Lexicographic.pointwise, Str.bytes_eq}
use Rattle.adf_base.specs.{Hash.slot_by, declared.hash.Letters.Letters, declared.hash.Letters.TheVariants.Ascii}
use Rattle.adf_names.specs.{Texts.uppers_by, declared.meta.Meta.Meta}
use Rattle.adf_tree.specs.{declared.entry.Entry.Entry, declared.entry.Body.Body, Chain.chain_by, Paths.entry_content, Paths.content_at_by, Paths.Content}
use Rattle.adf_tree.specs.Tree.{added_by, find_by, last_of, new_entry_by, parents_of, room_for_by, IsTreeBy}

-- a path to add, and its content
pub record Addition : Type 0 where
  pub path : List (List ℕ)
  pub meta : Meta
  pub body : Body

-- the content of an addition's entry
abbrev pub content_of : Addition → Content
content_of x = record { name = last_of x.path; meta = x.meta; body = x.body }

-- whether two paths are equal, ignoring case
abbrev pub same_path_by : Letters → List (List ℕ) → List (List ℕ) → Bool
same_path_by letters a b = pointwise bytes_eq (map (uppers_by letters) a) (map (uppers_by letters) b)

-- whether an addition goes into this directory and slot
abbrev pub comes_into_by : Letters → List (List ℕ) → ℕ → Addition → Bool
comes_into_by letters dir s x = same_path_by letters (parents_of x.path) dir && (slot_by letters (last_of x.path) == s)

-- es is the tree of these additions: it has each of them and nothing else, and its chains keep their order
pub record IsTreeOfBy (letters : Letters) (es : List Entry) (additions : List Addition) : Type 0 where
  pub tree : IsTreeBy letters es
  pub there : All (λ x. content_at_by letters es x.path ≡ Some (content_of x)) additions
  pub others : (q : List (List ℕ)) → All (λ x. map (uppers_by letters) q ≢ map (uppers_by letters) x.path) additions
      → content_at_by letters es q ≡ None
  pub chains : (dir : List (List ℕ)) (p s : ℕ) → find_by letters es dir ≡ Some p
      → map entry_content (chain_by letters es p s) ≡ map content_of (filter (comes_into_by letters dir s) additions)

-- the entries after `add` of one more addition
abbrev pub with_addition_by : Letters → List Entry → Addition → List Entry
with_addition_by letters es x = added_by letters es (new_entry_by letters es x.path x.meta x.body)

-- the entries after `add` of each addition in turn
abbrev pub entries_of_additions_by : Letters → List Addition → List Entry
entries_of_additions_by letters additions = fold (with_addition_by letters) [] additions

-- each addition has room in the tree of those before it
abbrev pub AllHaveRoomBy : Letters → List Addition → Type 0
AllHaveRoomBy letters additions = (i : ℕ) (d : Addition) → i < length additions
    → IsOk (room_for_by letters (entries_of_additions_by letters (take i additions)) (slice_index_or additions i d).path)

-- by ASCII letters

abbrev pub same_path : List (List ℕ) → List (List ℕ) → Bool
same_path = same_path_by Ascii

abbrev pub IsTreeOf : List Entry → List Addition → Type 0
IsTreeOf = IsTreeOfBy Ascii

abbrev pub with_addition : List Entry → Addition → List Entry
with_addition = with_addition_by Ascii

abbrev pub entries_of_additions : List Addition → List Entry
entries_of_additions = entries_of_additions_by Ascii

abbrev pub AllHaveRoom : List Addition → Type 0
AllHaveRoom = AllHaveRoomBy Ascii
