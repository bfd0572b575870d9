use Rattle.std.proofs.Common.{◌<◌}
use Rattle.adf_blocks.specs.Sizes.{blocks}
use Rattle.adf_check.specs.{Reading.IsBeforePage, Store.store_value, Pages.AreListed}
use Rattle.adf_check.proofs.pages.read_pages.Given as goal

abbrev pub invariant-loop-i : goal.invariant-loop-i
invariant-loop-i l = record {
  inside : l.holder < blocks l.image;
  state : IsBeforePage l.image (store_value l.store) l.i l.holder;
  pages : AreListed l.image l.pages.items l.i;
}
