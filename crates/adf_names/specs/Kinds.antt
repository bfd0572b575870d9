-- The words for kinds.
use Rattle.std.specs.Prelude.{ℕ, List, codes, Option, Some, None, if◌then◌else◌}
use Rattle.std.specs.Str.{bytes_eq}
use Rattle.adf_names.specs.declared.kind.Kind.{Kind, TheVariants.Ofs, TheVariants.Ffs}

-- the word for a kind
abbrev pub kind_text : Kind → List ℕ
kind_text Ofs = codes "ofs"
kind_text Ffs = codes "ffs"

-- the kind that a word names
abbrev pub kind_named : List ℕ → Option Kind
kind_named t = if bytes_eq t (kind_text Ofs) then Some Ofs else (if bytes_eq t (kind_text Ffs) then Some Ffs else None)
