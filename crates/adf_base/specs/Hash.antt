-- The hash of a name.
use Rattle.std.specs.Prelude.{ℕ, ◌+◌, ◌-◌, ◌*◌, ◌%◌, ◌==◌, ◌&&◌, ◌||◌, not, nat_le, if◌then◌else◌, Bool, List, length, fold}
use Rattle.adf_base.specs.declared.hash.Letters.{Letters, TheVariants.Ascii, TheVariants.International}

-- a to z (97 to 122) as A to Z
abbrev pub upper_of : ℕ → ℕ
upper_of c = if nat_le 97 c && nat_le c 122 then c - 32 else c

-- the hash h after one more byte
abbrev pub hash_more : ℕ → ℕ → ℕ
hash_more h c = (h * 13 + upper_of c) % 2048

-- the slot of a name, from 0 to 71
abbrev pub slot_of : List ℕ → ℕ
slot_of name = fold hash_more (length name) name % 72

-- whether a byte has an upper case in Latin-1: a to z, and 0xE0 to 0xFE but 0xF7
abbrev pub has_upper : ℕ → Bool
has_upper c = nat_le 97 c && nat_le c 122 || nat_le 0xE0 c && nat_le c 0xFE && not (c == 0xF7)

-- the byte in upper case, if it has one
abbrev pub upper_international : ℕ → ℕ
upper_international c = if has_upper c then c - 32 else c

-- the hash h after one more byte, by international letters
abbrev pub hash_international : ℕ → ℕ → ℕ
hash_international h c = (h * 13 + upper_international c) % 2048

-- the slot of a name by international letters
abbrev pub slot_international : List ℕ → ℕ
slot_international name = fold hash_international (length name) name % 72

-- the upper case by these letters
abbrev pub upper_by : Letters → ℕ → ℕ
upper_by Ascii = upper_of
upper_by International = upper_international

-- the slot of a name by these letters
abbrev pub slot_by : Letters → List ℕ → ℕ
slot_by Ascii = slot_of
slot_by International = slot_international
