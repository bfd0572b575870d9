-- A text that grows.
use Rattle.std.specs.Prelude.{ℕ, List, ◌++◌, Result, is_ok, if◌then◌else◌}

-- the text with the bytes appended, or unchanged if memory is refused
abbrev pub grown : {T E : Type 0} → Result T E → List ℕ → List ℕ → List ℕ
grown result text bytes = if is_ok result then text ++ bytes else text
