-- The texts of paths.
use Rattle.std.specs.Prelude.{◌≡◌, ◌==◌, ℕ, ◌<◌, ◌⊎◌, List, [], ◌∷◌, ◌++◌, Bool, if◌then◌else◌, map, true, All}
use Rattle.std.specs.List.{join_with_byte, slice_split}
use Rattle.adf_names.specs.{Escapes.escaped, Texts.is_name}

-- a list of bytes is a valid name
pub record IsName (name : List ℕ) : Type 0 where
  pub allowed : is_name name ≡ true
  pub are_bytes : All (λ c. c < 256) name

-- the text of a path: its escaped names, joined by `/`
abbrev pub path_text : List (List ℕ) → List ℕ
path_text path = join_with_byte 47 (map escaped path)

-- the text of a path, with one more name
abbrev pub with_name : List ℕ → List ℕ → Bool → List ℕ
with_name text name is_first = (if is_first then text else text ++ 47 ∷ []) ++ escaped name

-- the parts of a text between `/`
abbrev pub between_slashes : List ℕ → List (List ℕ)
between_slashes text = slice_split (λ c. c == 47) text

-- the text is that of this path, a list of names
pub record IsPathText (text : List ℕ) (path : List (List ℕ)) : Type 0 where
  pub spells : text ≡ path_text path
  pub names : All IsName path

-- a text is that of at most one path
abbrev pub PathTextsDecide : Type 0
PathTextsDecide = (text : List ℕ) (path other : List (List ℕ)) → IsPathText text path → IsPathText text other → path ≡ other

-- a text is that of a path, or of none
abbrev pub HasPathOrNone : List ℕ → Type 0
HasPathOrNone text = ((path : List (List ℕ)) × IsPathText text path) ⊎ ((path : List (List ℕ)) → ¬ IsPathText text path)
