use Rattle.std.proofs.Common.{◌+◌, subst, sym}
use Rattle.adf_readings.specs.Merge.{IsMergeOf}
use Rattle.adf_readings.proofs.Joined.{found_more, merged_more}
use Rattle.adf_readings.proofs.merging.merge.Goals as goal

pub loop-block-preserved : goal.loop-block-preserved
loop-block-preserved c =
    let added = c.in_ok-merge_block.ensures.image in
    record {
      image = subst (IsMergeOf (c.loop-block.block + 1) c.args.readings.now) (sym added.1)
          (merged_more c.loop-block.block c.args.readings.now c.loop-block.merged.image.items added.0 c.loop-block.invariant.image added.2 added.3);
      told = λ none. let before = c.in_ok-merge_block.ensures.told none in
          found_more c.loop-block.block c.args.readings.now (c.loop-block.invariant.told before.0) before.1;
    }
