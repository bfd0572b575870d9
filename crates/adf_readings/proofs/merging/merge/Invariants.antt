use Rattle.std.proofs.Common.{◌≡◌, []}
use Rattle.adf_readings.specs.Merge.{AreFound, IsMergeOf}
use Rattle.adf_readings.proofs.merging.merge.Given as goal

abbrev pub invariant-loop-block : goal.invariant-loop-block
invariant-loop-block l = record {
  image : IsMergeOf l.block l.readings l.merged.image.items;
  told : l.merged.doubts.items ≡ [] → AreFound l.block l.readings;
}
