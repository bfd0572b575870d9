use Rattle.adf_memory.specs.Rescuing.{ArePathsWithin}
use Rattle.adf_memory.proofs.losses.table_of.Given as goal

abbrev pub invariant-loop-i : goal.invariant-loop-i
invariant-loop-i l = ArePathsWithin l.table
