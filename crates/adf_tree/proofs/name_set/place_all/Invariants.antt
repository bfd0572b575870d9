use Rattle.std.proofs.Common.{◌++◌, ◌<◌, length, take}
use Rattle.adf_tree.specs.{NameSet.IsUnion, NameBuckets.AreStored}
use Rattle.adf_tree.proofs.name_set.place_all.Given as goal

abbrev pub invariant-loop-i : goal.invariant-loop-i
invariant-loop-i l = record {
  some : 8 < length l.buckets;
  stored : AreStored l.names.items l.buckets l.overflow.keys;
  whole : IsUnion (l.fn.names.items ++ l.fn.overflow.keys) (take l.i l.more) (l.names.items ++ l.overflow.keys);
}
