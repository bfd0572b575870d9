use Rattle.adf_check.specs.{Reading.IsInExts, Progress.left, Store.store_value}
use Rattle.adf_check.proofs.exts.read_exts.Given as goal

abbrev pub invariant-loop-link : goal.invariant-loop-link
invariant-loop-link l = record {
  state : IsInExts l.image (store_value l.store) l.file l.table.items l.link;
}

abbrev pub decreases-loop-link : goal.decreases-loop-link
decreases-loop-link l = left l.store
