-- Faults.
use Rattle.std.specs.Prelude.{◌≡◌, ◌≢◌, ◌++◌, ℕ, List, codes}
use Rattle.std.specs.Fmt.{decimal}
use Rattle.adf_base.specs.declared.hash.Letters.{Letters}
use Rattle.adf_blocks.specs.{Causes.cause_text, declared.cause.Cause.Cause, declared.cause.Cause.TheVariants.NoMemory}
use Rattle.adf_volume.specs.{Walk.FirstFaultBy, declared.fault.Fault.Fault}

-- a fault at a block
abbrev pub fault : ℕ → Cause → Fault
fault b c = record { block = b; cause = c }

-- the block and the cause, as a text
abbrev pub fault_text : Fault → List ℕ
fault_text f = codes "block " ++ (decimal f.block ++ (codes ": " ++ cause_text f.cause))

-- the fault is the first one of the image as a volume with these letters, or NoMemory at block 0
pub record IsTrueFaultBy (letters : Letters) (image : List ℕ) (f : Fault) : Type 0 where
  pub first : f.cause ≢ NoMemory → FirstFaultBy letters image f.block f.cause
  pub memory : f.cause ≡ NoMemory → f.block ≡ 0
