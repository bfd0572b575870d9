-- Names as four numbers.
use Rattle.std.specs.Prelude.{ℕ, ◌+◌, ◌*◌, ◌/◌, ◌%◌, ◌^◌, ◌-◌, ◌&&◌, nat_lt, nat_le, Bool, List, ◌∷◌, ◌++◌, length, take, drop, replicate}
use Rattle.std.specs.{List.list_all, Int.from_be_bytes, Int.w64, Int.Bits.bit_xor, Ordering.nat_cmp, Ordering.ordering_then, declared.cmp.Ordering.Ordering}
use Rattle.adf_tree.specs.declared.name_key.NameKey.{NameKey}

-- whether these are bytes, at most 30
abbrev pub is_short : List ℕ → Bool
is_short bytes = nat_le (length bytes) 30 && list_all (λ c. nat_lt c 256) bytes

-- the length of a name, its bytes, and zeros up to 32 bytes
abbrev pub padded : List ℕ → List ℕ
padded bytes = length bytes ∷ (bytes ++ replicate (31 - length bytes) 0)

-- the big-endian number in the 8 bytes at an offset
abbrev pub name_word : List ℕ → ℕ → ℕ
name_word text from = from_be_bytes w64 (take 8 (drop from text))

-- the key that 32 bytes encode
abbrev pub key_in : List ℕ → NameKey
key_in text = record { first = name_word text 0; second = name_word text 8; third = name_word text 16; fourth = name_word text 24 }

-- the key of a name
abbrev pub key_of_name : List ℕ → NameKey
key_of_name bytes = key_in (padded bytes)

-- keys in the order of their numbers
abbrev pub by_words : NameKey → NameKey → Ordering
by_words a b = ordering_then (nat_cmp a.first b.first) (ordering_then (nat_cmp a.second b.second)
    (ordering_then (nat_cmp a.third b.third) (nat_cmp a.fourth b.fourth)))

-- a number with one more word mixed in
abbrev pub hashed : ℕ → ℕ → ℕ
hashed number word = (number * 11400714819323198485 % 2 ^ 64 + word) % 2 ^ 64

-- a number with its upper half mixed into its lower half
abbrev pub folded : ℕ → ℕ
folded number = bit_xor number (number / 2 ^ 32)

-- the hash of a key: similar keys have hashes far apart
unfoldable pub spread_of : NameKey → ℕ
spread_of k = hashed (folded (hashed (hashed (hashed k.first k.second) k.third) k.fourth)) 0
