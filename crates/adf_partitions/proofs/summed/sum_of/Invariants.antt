use Rattle.std.proofs.Common.{◌≡◌}
use Rattle.adf_partitions.specs.Summed.{sum_of}
use Rattle.adf_partitions.proofs.summed.sum_of.Given as goal

abbrev pub invariant-loop-i : goal.invariant-loop-i
invariant-loop-i l = l.sum ≡ sum_of l.i l.b
