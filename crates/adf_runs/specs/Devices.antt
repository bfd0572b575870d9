-- What a device answers where it fails.
use Rattle.std.specs.Prelude.{ℕ, ◌&&◌, ◌==◌, nat_lt, Bool, true, List, length, Result, Ok, Err}
use Rattle.adf_runs.specs.declared.devices.Failed.{Failed}

-- a write fails by an error, or by taking 0 of some bytes
abbrev pub write_fails : Result ℕ Failed → List ℕ → Bool
write_fails (Ok n) bytes = n == 0 && nat_lt 0 (length bytes)
write_fails (Err e) bytes = true
