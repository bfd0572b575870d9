-- Faults, and the first test that fails.
use Rattle.std.specs.Prelude.{ℕ, Bool, List, [], ◌∷◌, if◌then◌else◌, Option, Some, None}
use Rattle.adf_partitions.specs.{declared.fault.DiskCause.DiskCause, declared.fault.DiskFault.DiskFault}

-- a fault at a block
abbrev pub disk_fault : ℕ → DiskCause → DiskFault
disk_fault b c = record { block = b; cause = c }

-- what the first test that fails reports
abbrev pub first_failed : {C : Type 0} → List (Bool × C) → Option C
first_failed [] = None
first_failed (x ∷ xs) = if x.0 then first_failed xs else Some x.1
