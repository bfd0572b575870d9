use Rattle.std.proofs.Common.{◌≡◌, ◌<◌, ℕ, false}
use Rattle.adf_partitions.specs.Tables.{is_rdsk}
use Rattle.adf_partitions.proofs.tables.find_rdsk.Given as goal

abbrev pub invariant-loop-b : goal.invariant-loop-b
invariant-loop-b l = (k : ℕ) → k < l.b → is_rdsk l.bytes k ≡ false
