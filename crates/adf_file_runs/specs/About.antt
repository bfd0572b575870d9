-- What a program tells of itself.
use Rattle.std.specs.Prelude.{ℕ, Bool, List, [], ◌∷◌, Option, None, Some, codes, if◌then◌else◌}
use Rattle.std.specs.{Option.option_or, Str.bytes_eq}
use Rattle.adf_file_runs.specs.declared.about.Telling.{Telling, TheVariants.Help, TheVariants.Version}

-- what a lone argument asks of the program itself
abbrev pub telling_named : List ℕ → Option Telling
telling_named word =
    if bytes_eq word (codes "--help") then Some Help else (if bytes_eq word (codes "--version") then Some Version else None)

-- whether an argument ends those that may ask something
abbrev pub is_last : List ℕ → Bool
is_last word = bytes_eq word (codes "--")

-- what arguments ask of it: what the first of them asks that asks something, and stands before `--`
unfoldable pub telling_among : List (List ℕ) → Option Telling
telling_among [] = None
telling_among (word ∷ words) = if is_last word then None else option_or (telling_named word) (telling_among words)

-- what arguments ask of it, the first of which is its name
abbrev pub telling_asked : List (List ℕ) → Option Telling
telling_asked [] = None
telling_asked (name ∷ words) = telling_among words
