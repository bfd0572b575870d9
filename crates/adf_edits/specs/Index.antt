-- Entries by place, and the index of their paths. ps are the entries by place, None where one was taken away.
use Rattle.std.specs.Prelude.{◌≡◌, ◌≢◌, ◌⊎◌, ◌-◌, ℕ, Bool, true, false, List, [], ◌∷◌, ◌++◌, Option, Some, None, length, map, fold}
use Rattle.std.specs.{Prelude.take, Prelude.if◌then◌else◌, List.slice_get, List.filter_map, Option.option_and_then, Ordering.is_eq, Ordering.nat_cmp}
use Rattle.std.specs.{declared.cmp.Ordering.Ordering, BTreeMap.BTreeMap, BTreeMap.get_by, BTreeMap.insert_entry, Cmp.Lexicographic.slice_cmp, Global.Vec}
use Rattle.std.specs.Map.{remove_entry}
use Rattle.adf_names.specs.Texts.{uppers}
use Rattle.adf_tree.specs.{Additions.Addition, Tree.is_dir_body, Tree.parents_of}
use Rattle.adf_edits.specs.Edits.{is_at, is_directory_at, is_within}
use Rattle.adf_edits.specs.declared.index.Places.{Places}

-- what stands at one place
abbrev pub same_entry : Option Addition → Option Addition
same_entry p = p

-- the entries that stand, in order
abbrev pub standing : List (Option Addition) → List Addition
standing ps = filter_map same_entry ps

-- the key of a path: its names in upper case, with a `/` behind each
abbrev pub with_key_name : List ℕ → List ℕ → List ℕ
with_key_name key name = key ++ (name ++ 47 ∷ [])

abbrev pub path_key : List (List ℕ) → List ℕ
path_key path = fold with_key_name [] (map uppers path)

-- the place that an index has at a key, and at that of a path
abbrev pub place_at : BTreeMap (Vec ℕ) ℕ → List ℕ → Option ℕ
place_at index key = get_by (λ k. slice_cmp nat_cmp key k.items) index

abbrev pub place_in_index : BTreeMap (Vec ℕ) ℕ → List (List ℕ) → Option ℕ
place_in_index index path = place_at index (path_key path)

-- the new index has a place more, under a key
abbrev pub by_bytes : Vec ℕ → Vec ℕ → Ordering
by_bytes a b = slice_cmp nat_cmp a.items b.items

abbrev pub HasPlaceMore : (old new : BTreeMap (Vec ℕ) ℕ) → Vec ℕ → ℕ → Type 0
HasPlaceMore old new key place = new.entries ≡ insert_entry by_bytes old.entries key place

-- the new index has a place less, that of a key
abbrev pub HasPlaceLess : (old new : BTreeMap (Vec ℕ) ℕ) → List ℕ → Type 0
HasPlaceLess old new key = new.entries ≡ remove_entry (λ k. is_eq (slice_cmp nat_cmp key k.items)) old.entries

-- the first key behind those of what is in the directory with this path: `0` comes next to `/`
abbrev pub end_key : List (List ℕ) → List ℕ
end_key path = take (length (path_key path) - 1) (path_key path) ++ 48 ∷ []

-- whether an entry stands, and has this path or is in the directory that has it
abbrev pub is_entry_within : List (List ℕ) → Option Addition → Bool
is_entry_within path None = false
is_entry_within path (Some x) = is_within path x

-- what stands at a place, unless it has this path or is in the directory that has it
abbrev pub left_by : List (List ℕ) → Option Addition → Option Addition
left_by path None = None
left_by path (Some x) = if is_within path x then None else Some x

-- the entries by place without those that have this path or are in the directory that has it
abbrev pub left_without : List (List ℕ) → List (Option Addition) → List (Option Addition)
left_without path ps = map (left_by path) ps

-- the entry at a place
abbrev pub entry_placed : List (Option Addition) → Option ℕ → Option Addition
entry_placed ps place = option_and_then same_entry (option_and_then (slice_get ps) place)

-- x stands at place i
abbrev pub StandsIn : List (Option Addition) → ℕ → Addition → Type 0
StandsIn ps i x = slice_get ps i ≡ Some (Some x)

-- an entry with this path stands at the place that was found
abbrev pub StandsAt : List (Option Addition) → List (List ℕ) → Option ℕ → Type 0
StandsAt ps path None = Unit {0}
StandsAt ps path (Some i) = (x : Addition) × StandsIn ps i x × (is_at path x ≡ true)

-- a directory stands at place i
abbrev pub IsDirectoryAt : List (Option Addition) → ℕ → Type 0
IsDirectoryAt ps i = (x : Addition) × StandsIn ps i x × (is_dir_body x.body ≡ true)

-- a file stands at place i
abbrev pub IsFileAt : List (Option Addition) → ℕ → Type 0
IsFileAt ps i = (x : Addition) × StandsIn ps i x × (is_dir_body x.body ≡ false)

-- a path has a name, and its directory is the root or stands
abbrev pub IsRooted : List (Option Addition) → List (List ℕ) → Type 0
IsRooted ps path = (length path ≡ 1)
    ⊎ ((length path ≢ 0) × ((i : ℕ) × (d : Addition) × StandsIn ps i d × (is_directory_at (parents_of path) d ≡ true)))

-- the index has the place of each entry that stands, and each has its directory
pub record IsIndexed (ps : List (Option Addition)) (index : BTreeMap (Vec ℕ) ℕ) : Type 0 where
  pub found : (i : ℕ) (x : Addition) → StandsIn ps i x → place_in_index index x.path ≡ Some i
  pub rooted : (i : ℕ) (x : Addition) → StandsIn ps i x → IsRooted ps x.path

-- so it is, unless the index is not whole
abbrev pub IsSoundIndex : Places → Type 0
IsSoundIndex p = p.is_whole ≡ true → IsIndexed p.entries.items p.index

-- the index is whole, and an entry with this path stands at place i
pub record IsIndexedAt (p : Places) (i : ℕ) (path : List (List ℕ)) : Type 0 where
  pub whole : p.is_whole ≡ true
  pub sound : IsSoundIndex p
  pub entry : StandsAt p.entries.items path (Some i)

-- the directory of a path is there, and nothing stands where the index has the path
pub record HasRoom (p : Places) (path : List (List ℕ)) : Type 0 where
  pub rooted : IsRooted p.entries.items path
  pub free : entry_placed p.entries.items (place_in_index p.index path) ≡ None

-- a path has room where what has the path `from`, and what is in it, is taken away
pub record HasRoomBut (p : Places) (from to : List (List ℕ)) : Type 0 where
  pub rooted : IsRooted (left_without from p.entries.items) to
  pub free : entry_placed (left_without from p.entries.items) (place_in_index p.index to) ≡ None

-- what an edit makes is done, or else nothing is
abbrev pub IsStep : Option (List Addition) → (old new : Places) → (done : Bool) → Type 0
IsStep made old new true = made ≡ Some (standing new.entries.items)
IsStep made old new false = standing new.entries.items ≡ standing old.entries.items
