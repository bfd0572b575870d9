-- The lines of what is not built.
use Rattle.std.specs.Prelude.{ℕ, List, ◌++◌, codes}
use Rattle.adf_manifest.specs.{Kinds.manifest_fault_text, declared.manifest.ManifestFault.ManifestFault}
use Rattle.adf_build.specs.Building.{full_text}

-- the line of a tree that needs more blocks than the volume has
abbrev pub full_line : ℕ → ℕ → List ℕ
full_line need have = full_text need have ++ codes "\n"

-- the line of a manifest's fault
abbrev pub manifest_fault_line : ManifestFault → List ℕ
manifest_fault_line f = manifest_fault_text f ++ codes "\n"
