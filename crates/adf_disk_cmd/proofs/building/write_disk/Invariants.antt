use Rattle.std.proofs.Common.{◌≡◌, false}
use Rattle.adf_disk_cmd.proofs.BuiltDisks.{IsWritten}
use Rattle.adf_partitions.specs.Plans.{plan_value}
use Rattle.adf_disk_cmd.proofs.building.write_disk.Given as goal

abbrev pub invariant-loop-partition : goal.invariant-loop-partition
invariant-loop-partition g l = record {
  works : g.W.Sink.has_failed l.output ≡ false;
  written : IsWritten (plan_value l.plan) l.given l.tables l.partition-index (g.W.Sink.held l.fn.output) (g.W.Sink.held l.output) l.left;
}
