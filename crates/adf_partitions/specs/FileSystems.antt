-- The file systems of planned partitions, as types and as words.
use Rattle.std.specs.Prelude.{ℕ, ◌+◌, List, ◌++◌, codes, Option, Some, option_map, if◌then◌else◌}
use Rattle.std.specs.Str.{bytes_eq}
use Rattle.adf_base.specs.declared.hash.Letters.{Letters, TheVariants.International}
use Rattle.adf_names.specs.{Kinds.kind_text, VolumeTypes.kind_named_by, VolumeTypes.kind_text_by, VolumeTypes.type_number, declared.kind.Kind.Kind}
use Rattle.adf_names.specs.declared.kind.Kind.TheVariants.{Ofs, Ffs}
use Rattle.adf_partitions.specs.declared.file_system.FileSystem.{FileSystem, TheVariants.WithCaches, TheVariants.WithoutCaches}

-- whether files have data blocks of OFS or of FFS
abbrev pub kind_of_system : FileSystem → Kind
kind_of_system (WithoutCaches kind letters) = kind
kind_of_system (WithCaches kind) = kind

-- the letters of which case is ignored in names
abbrev pub letters_of_system : FileSystem → Letters
letters_of_system (WithoutCaches kind letters) = letters
letters_of_system (WithCaches kind) = International

-- the type: `DOS` and the number of the kind and the letters, and 2 more with directory caches
abbrev pub planned_type : FileSystem → ℕ
planned_type (WithoutCaches kind letters) = 0x444F5300 + type_number letters kind
planned_type (WithCaches kind) = 0x444F5302 + type_number International kind

-- the word for a file system
abbrev pub system_text : FileSystem → List ℕ
system_text (WithoutCaches kind letters) = kind_text_by letters kind
system_text (WithCaches kind) = kind_text kind ++ codes "-cached"

-- the file system of a kind and letters
abbrev pub without_caches : Kind × Letters → FileSystem
without_caches x = WithoutCaches x.0 x.1

-- the file system that a word names
abbrev pub system_named : List ℕ → Option FileSystem
system_named t =
    if bytes_eq t (system_text (WithCaches Ofs)) then Some (WithCaches Ofs)
    else (if bytes_eq t (system_text (WithCaches Ffs)) then Some (WithCaches Ffs) else option_map without_caches (kind_named_by t))
