use Rattle.std.proofs.Common.{◌≡◌, ◌||◌, ◌++◌, ◌<◌, length}
use Rattle.adf_tree.specs.{declared.name_key.NameKey.NameKey, NameSet.is_among, NameBuckets.AreStored}
use Rattle.adf_tree.proofs.name_set.place_overflow.Given as goal

abbrev pub invariant-loop-name : goal.invariant-loop-name
invariant-loop-name l = record {
  some : 8 < length l.buckets;
  stored : AreStored l.names.items l.buckets l.overflow.keys;
  whole : (k : NameKey) → (is_among l.more.keys k || is_among (l.names.items ++ l.overflow.keys) k)
      ≡ (is_among l.fn.more.keys k || is_among (l.fn.names.items ++ l.fn.overflow.keys) k);
}

abbrev pub decreases-loop-name : goal.decreases-loop-name
decreases-loop-name l = length l.more.keys
