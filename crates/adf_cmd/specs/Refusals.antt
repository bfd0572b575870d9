-- What an outcome says of an input that is refused.
use Rattle.std.specs.Prelude.{◌≡◌, ◌≢◌, ℕ, List, string_bytes}
use Rattle.adf_volume.specs.{Walk.FirstFault, declared.fault.Fault.Fault}
use Rattle.adf_texts.specs.Lines.{fault_line}
use Rattle.adf_cmd.specs.BuildLines.{full_line, manifest_fault_line}
use Rattle.adf_manifest.specs.declared.manifest.ManifestFault.{ManifestFault}
use Rattle.adf_manifest.specs.declared.manifest.ManifestKind.TheVariants.{NoMemory as ManifestNoMemory}
use Rattle.adf_runs.specs.declared.outcome.Outcome.{Outcome, TheVariants.Refused, TheVariants.NoMemory}

-- saying that a tree needs more blocks than there are
abbrev pub IsFullOutcome : ℕ → ℕ → Outcome → Type 0
IsFullOutcome need have (Refused line) = string_bytes line ≡ full_line need have
IsFullOutcome need have NoMemory = Unit {0}
IsFullOutcome need have _ = ⊥

-- saying why a manifest is refused
abbrev pub IsFaultOutcome : ManifestFault → Outcome → Type 0
IsFaultOutcome f (Refused line) = (f.kind ≢ ManifestNoMemory) × (string_bytes line ≡ manifest_fault_line f)
IsFaultOutcome f NoMemory = Unit {0}
IsFaultOutcome f _ = ⊥

-- saying on errors that an image is refused: the line of its first fault
abbrev pub IsRefusedImage : List ℕ → Outcome → Type 0
IsRefusedImage image (Refused line) = (f : Fault) × FirstFault image f.block f.cause × (string_bytes line ≡ fault_line f)
IsRefusedImage image NoMemory = Unit {0}
IsRefusedImage image _ = ⊥
