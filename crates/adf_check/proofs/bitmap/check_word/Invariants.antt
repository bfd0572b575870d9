use Rattle.adf_check.specs.{Reading.IsMapped, Store.store_value}
use Rattle.adf_check.proofs.bitmap.check_word.Given as goal

abbrev pub invariant-loop-b : goal.invariant-loop-b
invariant-loop-b l = IsMapped l.image (store_value l.store) l.b
