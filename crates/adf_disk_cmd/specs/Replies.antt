-- What is written to output, and the status beside it.
use Rattle.std.specs.Prelude.{◌≡◌, ℕ, Bool, List, if◌then◌else◌}
use Rattle.adf_runs.specs.Commands.{Reply}

-- the status of what is told: 0 where all is sound
abbrev pub check_status : Bool → ℕ
check_status sound = if sound then 0 else 1

-- output gets these bytes, at this status
abbrev pub WritesOutput : ℕ → List ℕ → Reply → Type 0
WritesOutput n bytes reply = (reply.status ≡ n) × (reply.output ≡ bytes)
