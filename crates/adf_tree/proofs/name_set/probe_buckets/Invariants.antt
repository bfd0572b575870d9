use Rattle.std.proofs.Common.{◌≡◌, ◌+◌, ◌-◌}
use Rattle.adf_tree.specs.NameBuckets.{probe_from, probe_buckets}
use Rattle.adf_tree.proofs.name_set.probe_buckets.Given as goal

abbrev pub invariant-loop-bucket : goal.invariant-loop-bucket
invariant-loop-bucket l = record {
  end : l.bucket-end ≡ l.first + 8;
  same : probe_buckets l.names l.buckets l.name ≡ probe_from l.names l.buckets l.name l.bucket (l.first + 8 - l.bucket);
}
