-- The texts of bytes and words.
use Rattle.std.specs.Prelude.{◌≡◌, ◌<◌, All, ◌+◌, ◌-◌, ◌*◌, ◌&&◌, ◌||◌, nat_le, nat_lt, Bool, ℕ, List, [], ◌∷◌, ◌++◌, if◌then◌else◌}
use Rattle.std.specs.List.{flat_map}
use Rattle.adf_names.specs.Digits.{pair}

-- the digits of bytes, without separators
abbrev pub pairs : List ℕ → List ℕ
pairs bytes = flat_map pair bytes

-- the value of a hexadecimal digit
abbrev pub digit : ℕ → ℕ
digit d = if nat_lt d 58 then d - 48 else d - 87

-- whether a byte is a lower-case hexadecimal digit
abbrev pub is_digit : ℕ → Bool
is_digit c = (nat_le 48 c && nat_le c 57) || (nat_le 97 c && nat_le c 102)

-- the bytes with these digits
abbrev pub unpaired : List ℕ → List ℕ
unpaired [] = []
unpaired (high ∷ []) = []
unpaired (high ∷ low ∷ rest) = (16 * digit high + digit low) ∷ unpaired rest

-- a text is the digits of some bytes
pub record AreDigits (text : List ℕ) : Type 0 where
  pub spells : text ≡ pairs (unpaired text)
  pub are_bytes : All (λ b. b < 256) (unpaired text)
