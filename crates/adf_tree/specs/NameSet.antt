-- Sets of names, ignoring case.
use Rattle.std.specs.Prelude.{◌≡◌, ℕ, Bool, List, ◌||◌, ◌&&◌}
use Rattle.std.specs.{List.list_any, Ordering.is_eq, Str.bytes_eq}
use Rattle.adf_tree.specs.{declared.name_key.NameKey.NameKey, NameKeys.by_words, NameKeys.is_short, NameKeys.key_of_name}

-- names as keys
abbrev pub Names : Type 0
Names = List NameKey

-- whether these names include one
abbrev pub is_among : Names → NameKey → Bool
is_among names k = list_any (λ n. is_eq (by_words k n)) names

-- whether the set has this upper-case name
unfoldable pub has : Names → List ℕ → Bool
has names bytes = is_short bytes && is_among names (key_of_name bytes)

-- the new set is the old one and this name
abbrev pub HasMore : Names → Names → List ℕ → Type 0
HasMore old new bytes = (x : List ℕ) → has new x ≡ (bytes_eq bytes x || has old x)

-- the new names are the old ones and one more
abbrev pub IsWith : Names → Names → NameKey → Type 0
IsWith old new name = (k : NameKey) → is_among new k ≡ (is_eq (by_words name k) || is_among old k)

-- the new names are the union of the old ones and some more
abbrev pub IsUnion : Names → Names → Names → Type 0
IsUnion old more new = (k : NameKey) → is_among new k ≡ (is_among more k || is_among old k)
