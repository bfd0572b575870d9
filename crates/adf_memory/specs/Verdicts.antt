-- The verdict on an image.
use Rattle.std.specs.Prelude.{◌≡◌, ◌⊎◌, ℕ, List}
use Rattle.adf_base.specs.declared.hash.Letters.{Letters}
use Rattle.adf_names.specs.VolumeTypes.{type_number}
use Rattle.adf_blocks.specs.{Causes.cause_number, declared.cause.Cause.Cause, declared.cause.Cause.TheVariants.NoMemory}
use Rattle.adf_volume.specs.{Walk.FirstFaultOf, declared.counts.Counts.Counts, declared.types.Types.Types}
use Rattle.adf_memory.specs.declared.verdict.Verdict.{Verdict}

-- an accepted image with these letters: its numbers, and no block of a fault
abbrev pub accepted_by : Letters → Counts → Verdict
accepted_by letters c = record {
  kind = type_number letters c.kind;
  blocks = c.blocks;
  used = c.used;
  free = c.free;
  dirs = c.dirs;
  files = c.files;
  block = 0;
}

-- a refused image: the block of its fault
abbrev pub refused : ℕ → Verdict
refused b = record { kind = 0; blocks = 0; used = 0; free = 0; dirs = 0; files = 0; block = b }

-- 0 for an accepted image, or the number of a cause
abbrev pub IsVerdictNumber : ℕ → Type 0
IsVerdictNumber n = (n ≡ 0) ⊎ ((c : Cause) × (cause_number c ≡ n))

-- the number of the cause of refused memory
abbrev pub WantsMemory : ℕ → Type 0
WantsMemory n = n ≡ cause_number NoMemory

-- it holds where n is the number of a cause that is not refused memory
abbrev pub OnFault : ℕ → Type 0 → Type 0
OnFault n holds = ¬ (n ≡ 0) → ¬ WantsMemory n → holds

-- n is the number of the cause of the first fault of the image as a volume of these types, which stands at block b
abbrev pub IsFirstCauseOf : Types → List ℕ → ℕ → ℕ → Type 0
IsFirstCauseOf types image b n = (c : Cause) × (cause_number c ≡ n) × FirstFaultOf types image b c
