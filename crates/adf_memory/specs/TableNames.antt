-- What a table of entries tells of directories and names.
-- Letters: x an entry of the table, and xs entries of it; es entries of a tree; p a directory's number; r a pair of directory and slot; n a count.
-- What depends on the letters whose case is ignored takes them first.
use Rattle.std.specs.Prelude.{◌≡◌, ◌<◌, ◌≤◌, ◌==◌, ◌&&◌, ℕ, Bool, true, false, List, length, nat_le, nat_lt, take, slice_index_or}
use Rattle.std.specs.{List.Sorted.IsNonDecreasingBy, List.Sorted.IsPartitionPoint, Str.bytes_eq}
use Rattle.adf_base.specs.{Hash.slot_by, declared.hash.Letters.Letters}
use Rattle.adf_tree.specs.{declared.entry.Entry.Entry, Tree.rank_by, Tree.rank_of}
use Rattle.adf_names.specs.Texts.{uppers_by}
use Rattle.adf_memory.specs.declared.tables.TableEntry.{TableEntry}

-- the name of an entry of the table
abbrev pub name_in : TableEntry → List ℕ
name_in x = take x.name_length x.name

-- the pair of directory and slot that it stands at
abbrev pub rank_in_by : Letters → TableEntry → ℕ
rank_in_by letters x = rank_of x.parent (slot_by letters (name_in x))

-- the first n entries stand before the pair r, and all others at it or behind
abbrev pub IsStartBy : Letters → List TableEntry → ℕ → ℕ → Type 0
IsStartBy letters xs r n = IsPartitionPoint (λ x. nat_lt (rank_in_by letters x) r ≡ true) (λ x. nat_lt (rank_in_by letters x) r ≡ false) xs n

-- the first n entries stand before the pair r or at it, and all others behind
abbrev pub IsEndBy : Letters → List TableEntry → ℕ → ℕ → Type 0
IsEndBy letters xs r n = IsPartitionPoint (λ x. nat_le (rank_in_by letters x) r ≡ true) (λ x. nat_le (rank_in_by letters x) r ≡ false) xs n

-- whether it has this directory and this name, ignoring case
abbrev pub is_child_in_by : Letters → ℕ → List ℕ → TableEntry → Bool
is_child_in_by letters p name x = (x.parent == p) && bytes_eq (uppers_by letters (name_in x)) (uppers_by letters name)

-- the table has the directories and names of these entries, which are in walk order, each behind its directory
pub record HasNamesOfBy (letters : Letters) (xs : List TableEntry) (es : List Entry) : Type 0 where
  pub count : length xs ≡ length es
  pub order : IsNonDecreasingBy (rank_by letters) es
  pub below : (i : ℕ) (e : Entry) → i < length es → (slice_index_or es i e).parent ≤ i
  pub parents : (i : ℕ) (x : TableEntry) (e : Entry) → i < length es → (slice_index_or xs i x).parent ≡ (slice_index_or es i e).parent
  pub names : (i : ℕ) (x : TableEntry) (e : Entry) → i < length es → name_in (slice_index_or xs i x) ≡ (slice_index_or es i e).name
