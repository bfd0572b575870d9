-- The types of volumes, as numbers and as words: for a kind, and for the letters of which case is ignored in names.
use Rattle.std.specs.Prelude.{ℕ, List, ◌++◌, codes, Option, Some, None, cond, if◌then◌else◌, nat_lt}
use Rattle.std.specs.Str.{bytes_eq}
use Rattle.adf_base.specs.declared.hash.Letters.{Letters, TheVariants.Ascii, TheVariants.International}
use Rattle.adf_names.specs.{Kinds.kind_text, declared.kind.Kind.Kind, declared.kind.Kind.TheVariants.Ofs, declared.kind.Kind.TheVariants.Ffs}

-- the type of a volume: the byte behind `DOS` at its start
abbrev pub type_number : Letters → Kind → ℕ
type_number Ascii Ofs = 0
type_number Ascii Ffs = 1
type_number International Ofs = 2
type_number International Ffs = 3

-- the letters of the names in a volume of this type, 0 to 3
abbrev pub letters_of_type : ℕ → Letters
letters_of_type type = cond (nat_lt type 2) Ascii International

-- the word for a kind and these letters
abbrev pub kind_text_by : Letters → Kind → List ℕ
kind_text_by Ascii kind = kind_text kind
kind_text_by International kind = kind_text kind ++ codes "-international"

-- the kind and the letters that a word names
abbrev pub kind_named_by : List ℕ → Option (Kind × Letters)
kind_named_by t =
    if bytes_eq t (kind_text_by Ascii Ofs) then Some (Ofs, Ascii)
    else (if bytes_eq t (kind_text_by Ascii Ffs) then Some (Ffs, Ascii)
    else (if bytes_eq t (kind_text_by International Ofs) then Some (Ofs, International)
    else (if bytes_eq t (kind_text_by International Ffs) then Some (Ffs, International) else None)))
