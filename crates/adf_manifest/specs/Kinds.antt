-- The numbers and texts of faults.
use Rattle.std.specs.Prelude.{◌++◌, ℕ, List, codes}
use Rattle.std.specs.Fmt.{decimal}
use Rattle.adf_manifest.specs.{declared.manifest.ManifestFault.ManifestFault, declared.manifest.ManifestKind.ManifestKind}
use Rattle.adf_manifest.specs.declared.manifest.ManifestKind.TheVariants.{BadLine, BadSize, BadText, NoParent, ParentIsFile, Exists, NoMemory, TooLong}

-- the number of a kind of fault, 1 to 8
abbrev pub manifest_kind_number : ManifestKind → ℕ
manifest_kind_number BadLine = 1
manifest_kind_number BadSize = 2
manifest_kind_number BadText = 3
manifest_kind_number NoParent = 4
manifest_kind_number ParentIsFile = 5
manifest_kind_number Exists = 6
manifest_kind_number NoMemory = 7
manifest_kind_number TooLong = 8

-- the text of a kind of fault
abbrev pub manifest_kind_text : ManifestKind → List ℕ
manifest_kind_text BadLine = codes "bad line"
manifest_kind_text BadSize = codes "bad size"
manifest_kind_text BadText = codes "bad text"
manifest_kind_text NoParent = codes "no parent"
manifest_kind_text ParentIsFile = codes "parent is file"
manifest_kind_text Exists = codes "exists"
manifest_kind_text NoMemory = codes "no memory"
manifest_kind_text TooLong = codes "too long"

-- the line and the kind, as a text
abbrev pub manifest_fault_text : ManifestFault → List ℕ
manifest_fault_text f = codes "line " ++ (decimal f.line ++ (codes ": " ++ manifest_kind_text f.kind))
