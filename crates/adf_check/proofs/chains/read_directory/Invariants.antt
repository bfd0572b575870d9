use Rattle.adf_check.specs.{Reading.IsAtSlot, Store.store_value}
use Rattle.adf_check.proofs.chains.read_directory.Given as goal

abbrev pub invariant-loop-slot : goal.invariant-loop-slot
invariant-loop-slot l = record {
  state : IsAtSlot l.image (store_value l.store) l.parent l.up l.slot;
}
