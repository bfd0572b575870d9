-- A map from parent and name to the number of the entry.
use Rattle.std.specs.Prelude.{◌≡◌, ℕ, ◌+◌, ◌%◌, ◌^◌, ◌==◌, ◌&&◌, List, Option, Some, None, if◌then◌else◌}
use Rattle.std.specs.{List.slice_get, Ordering.nat_cmp, Ordering.ordering_then, declared.cmp.Ordering.Ordering, Str.bytes_eq, BTreeMap.BTreeMap, BTreeMap.get}
use Rattle.adf_drafts.specs.declared.child_map.ChildKey.{ChildKey}
use Rattle.adf_tree.specs.NameKeys.{by_words, is_short, key_of_name}

-- the buckets of a map from parent and upper-case name to number
abbrev pub Numbers : Type 0
Numbers = List (BTreeMap ChildKey ℕ)

-- the key of a parent and a name
abbrev pub child_key : ℕ → List ℕ → ChildKey
child_key parent name = record { name = key_of_name name; parent = parent }

-- keys by name, then by parent
abbrev pub by_child : ChildKey → ChildKey → Ordering
by_child a b = ordering_then (by_words a.name b.name) (nat_cmp a.parent b.parent)

-- the bucket that a key hashes to
abbrev pub bucket_of : ChildKey → ℕ
bucket_of k = ((((k.name.first + k.name.second) % 2 ^ 64 + k.name.third) % 2 ^ 64 + k.name.fourth) % 2 ^ 64 + k.parent) % 2 ^ 64 % 1021

-- the number of a key in its bucket, if the bucket exists
abbrev pub number_in_bucket : Option (BTreeMap ChildKey ℕ) → ChildKey → Option ℕ
number_in_bucket None k = None
number_in_bucket (Some bucket) k = get by_child bucket k

-- the number stored for this parent and upper-case name
unfoldable pub number_in : Numbers → ℕ → List ℕ → Option ℕ
number_in numbers parent name = if is_short name then number_in_bucket (slice_get numbers (bucket_of (child_key parent name))) (child_key parent name) else None

-- the new numbers are the old ones, with one more for this parent and name
abbrev pub AddsNumber : Numbers → Numbers → ℕ → List ℕ → ℕ → Type 0
AddsNumber old new parent name n = (p : ℕ) (x : List ℕ) → number_in new p x ≡ (if (parent == p) && bytes_eq name x then Some n else number_in old p x)
