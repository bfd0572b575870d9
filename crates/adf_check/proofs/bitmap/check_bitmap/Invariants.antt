use Rattle.std.proofs.Common.{◌+◌, ◌*◌, min}
use Rattle.adf_blocks.specs.Sizes.{blocks}
use Rattle.adf_check.specs.{Reading.IsMapped, Store.store_value}
use Rattle.adf_check.proofs.bitmap.check_bitmap.Given as goal

abbrev pub invariant-loop-i : goal.invariant-loop-i
invariant-loop-i l = record {
  state : IsMapped l.image (store_value l.store) (min (2 + 32 * l.i) (blocks l.image));
}
