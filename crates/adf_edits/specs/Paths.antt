-- Paths within a directory.
use Rattle.std.specs.Prelude.{ℕ, ◌&&◌, nat_le, nat_lt, Bool, List, length, take}
use Rattle.adf_tree.specs.Additions.{same_path}

-- whether a path is that of the directory, or leads to something in it
abbrev pub is_at_or_under : List (List ℕ) → List (List ℕ) → Bool
is_at_or_under directory path = nat_le (length directory) (length path) && same_path (take (length directory) path) directory

-- whether a path leads to something in the directory
abbrev pub is_under : List (List ℕ) → List (List ℕ) → Bool
is_under directory path = nat_lt (length directory) (length path) && same_path (take (length directory) path) directory
