use Rattle.std.proofs.Common.{◌≡◌, ◌++◌}
use Rattle.adf_edits.specs.Index.{IsSoundIndex, standing}
use Rattle.adf_edits.proofs.indexed.places_of.Given as goal

abbrev pub invariant-loop-item : goal.invariant-loop-item
invariant-loop-item l = record {
  items : standing l.places.entries.items ≡ l.yielded;
  sound : IsSoundIndex l.places;
  all : l.yielded ++ l.item-iterator.rest.items ≡ l.fn.items.items;
}
