use Rattle.std.proofs.Common.{◌≡◌}
use Rattle.adf_partitions.specs.Searches.{with_all_lost}
use Rattle.adf_partitions.proofs.search.with_all_lost.Given as goal

abbrev pub invariant-loop-b : goal.invariant-loop-b
invariant-loop-b l = l.found.items ≡ with_all_lost l.bytes l.blocks l.tables l.fn.partitions.items l.b
