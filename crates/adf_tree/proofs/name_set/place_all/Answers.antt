use Rattle.std.proofs.Common.{arith, ◌++◌}
use Rattle.adf_tree.specs.declared.name_key.NameKey.{NameKey}
use Rattle.adf_tree.proofs.NameBuckets.{with_one}
use Rattle.adf_tree.proofs.name_set.place_all.Goals as goal

pub loop-i-preserved : goal.loop-i-preserved
loop-i-preserved c = record {
  some = omega (arith, c.loop-i.invariant.some, c.place.auto.buckets);
  stored = c.place.ensures.stored;
  whole =
      let none : NameKey = record { first = 0; second = 0; third = 0; fourth = 0 } in
      with_one (c.args.names.now.items ++ c.args.overflow.now.keys) (c.loop-i.names.items ++ c.loop-i.overflow.keys)
      (c.place.new.names.items ++ c.place.new.overflow.keys) c.args.more.now c.loop-i.i none c.loop-i-test.true c.loop-i.invariant.whole
      c.in_ok-place.ensures.more;
}
