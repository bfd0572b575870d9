-- The lines of objects in JSON.
use Rattle.std.specs.Prelude.{ℕ, ℤ, ◌/◌, ◌%◌, ◌-◌, ◌==◌, ◌&&◌, not, Bool, true, false, List, [], ◌∷◌, ◌++◌, codes, if◌then◌else◌, length, map, take}
use Rattle.std.specs.{Fmt.decimal, Fmt.signed_decimal, List.flat_map, List.join_with_byte}
use Rattle.adf_names.specs.Escapes.{hex_digit, is_plain}
use Rattle.adf_json.specs.declared.objects.Member.{Member}
use Rattle.adf_json.specs.declared.objects.Value.{Value, TheVariants.Nothing, TheVariants.Truth, TheVariants.Number, TheVariants.Signed, TheVariants.Bytes}

-- the value of a member: null, true or false, a number, perhaps with a sign, or a string with a character U+0000 to U+00FF for each byte
pub data JsonValue : Type 0 where
  nothing : JsonValue
  truth : Bool → JsonValue
  numeral : ℕ → JsonValue
  integer : ℤ → JsonValue
  characters : List ℕ → JsonValue

-- a member of an object
pub record MemberValue : Type 0 where
  pub name : List ℕ
  pub value : JsonValue

-- a member with this name and this value
abbrev pub member : List ℕ → JsonValue → MemberValue
member name value = record { name = name; value = value }

-- a byte that stands for itself in a string: printable ASCII, except `\` and `"`
abbrev pub is_plain_in_string : ℕ → Bool
is_plain_in_string c = is_plain c && not (c == 34)

-- a byte in a string: itself, or `\u00` and its two digits
abbrev pub byte_in_string : ℕ → List ℕ
byte_in_string c = if is_plain_in_string c then c ∷ [] else codes "\\u00" ++ hex_digit (c / 16) ∷ hex_digit (c % 16) ∷ []

-- a string
abbrev pub string_text : List ℕ → List ℕ
string_text bytes = codes "\"" ++ (flat_map byte_in_string bytes ++ codes "\"")

-- the text of a value
abbrev pub value_text : JsonValue → List ℕ
value_text nothing = codes "null"
value_text (truth true) = codes "true"
value_text (truth false) = codes "false"
value_text (numeral n) = decimal n
value_text (integer n) = signed_decimal n
value_text (characters bytes) = string_text bytes

-- the text of a member
abbrev pub member_text : MemberValue → List ℕ
member_text m = string_text m.name ++ (codes ":" ++ value_text m.value)

-- the line of an object
abbrev pub object_line : List MemberValue → List ℕ
object_line ms = codes "{" ++ (join_with_byte 44 (map member_text ms) ++ codes "}\n")

-- a value as the code has it
abbrev pub value_value : Value → JsonValue
value_value Nothing = nothing
value_value (Truth is) = truth is
value_value (Number n) = numeral n
value_value (Signed n) = integer n
value_value (Bytes bytes) = characters bytes.now

-- a member as the code has it
abbrev pub member_value : Member → MemberValue
member_value m = member m.name.now (value_value m.value)

-- a text without its last byte, which is its line feed
abbrev pub without_feed : List ℕ → List ℕ
without_feed text = take (length text - 1) text
