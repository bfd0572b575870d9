-- The entries of a checked volume, rebuilt.
use Rattle.std.specs.Prelude.{ℕ, List, Option, Some, None}
use Rattle.adf_tree.specs.declared.entry.Body.{Body, TheVariants.Dir, TheVariants.File}

-- the body with these bytes, or a directory if there are none
abbrev pub body_with : Option (List ℕ) → Body
body_with None = Dir
body_with (Some bytes) = File bytes
