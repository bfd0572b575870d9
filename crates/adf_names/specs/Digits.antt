-- The digits of numbers.
use Rattle.std.specs.Prelude.{ℕ, ◌-◌, ◌^◌, ◌/◌, ◌%◌, List, [], ◌∷◌, ◌++◌, length, replicate}
use Rattle.adf_names.specs.Escapes.{hex_digit}

-- the two hexadecimal digits of a byte
abbrev pub pair : ℕ → List ℕ
pair b = hex_digit (b / 16) ∷ hex_digit (b % 16) ∷ []

-- the eight hexadecimal digits of a word, big-endian
abbrev pub hex_word : ℕ → List ℕ
hex_word w = pair (w / 2 ^ 24 % 256) ++ (pair (w / 2 ^ 16 % 256) ++ (pair (w / 2 ^ 8 % 256) ++ pair (w % 256)))

-- a text, right-aligned in ten columns
abbrev pub right_in_ten : List ℕ → List ℕ
right_in_ten text = replicate (10 - length text) 32 ++ text
