-- Names, labels and comments.
use Rattle.std.specs.Prelude.{ℕ, ◌==◌, ◌&&◌, not, nat_le, Bool, List, length, map}
use Rattle.std.specs.List.{list_all}
use Rattle.adf_base.specs.{Hash.upper_by, Hash.upper_of, declared.hash.Letters.Letters}

-- a byte allowed in a name: neither `/` nor `:`
abbrev pub is_name_byte : ℕ → Bool
is_name_byte c = not (c == 58) && not (c == 47)

-- a valid name: 1 to 30 bytes
abbrev pub is_name : List ℕ → Bool
is_name bytes = nat_le 1 (length bytes) && nat_le (length bytes) 30 && list_all is_name_byte bytes

-- a name with `a` to `z` in upper case
abbrev pub uppers : List ℕ → List ℕ
uppers name = map upper_of name

-- a name in upper case by these letters
abbrev pub uppers_by : Letters → List ℕ → List ℕ
uppers_by letters name = map (upper_by letters) name
