-- The texts of names and paths that are read from a disk, where a name need not be valid.
use Rattle.std.specs.Prelude.{◌≡◌, All, ℕ, List, [], ◌∷◌, ◌/◌, ◌%◌, map, if◌then◌else◌}
use Rattle.std.specs.List.{flat_map, join_with_byte}
use Rattle.adf_names.specs.{Escapes.escape_of, Escapes.hex_digit, PathTexts.IsName, PathTexts.path_text, Texts.is_name_byte}

-- `\x` and the two digits of a byte
abbrev pub digits_of : ℕ → List ℕ
digits_of c = 92 ∷ 120 ∷ hex_digit (c / 16) ∷ hex_digit (c % 16) ∷ []

-- the spelling of a byte of a name: its escape, and the digits of `/` and `:`, which are in no valid name
abbrev pub name_byte : ℕ → List ℕ
name_byte c = if is_name_byte c then escape_of c else digits_of c

-- the spelling of bytes of a name
abbrev pub name_bytes : List ℕ → List ℕ
name_bytes bytes = flat_map name_byte bytes

-- the spelling of a name: of its bytes, or `\x` where it has none
abbrev pub spelled : List ℕ → List ℕ
spelled [] = 92 ∷ 120 ∷ []
spelled (c ∷ cs) = name_bytes (c ∷ cs)

-- the text of a path of such names, joined by `/`
abbrev pub names_text : List (List ℕ) → List ℕ
names_text path = join_with_byte 47 (map spelled path)

-- a path of valid names has one text, whether its names are known to be valid or not
abbrev pub ValidNamesAreAlike : Type 0
ValidNamesAreAlike = (path : List (List ℕ)) → All IsName path → names_text path ≡ path_text path
