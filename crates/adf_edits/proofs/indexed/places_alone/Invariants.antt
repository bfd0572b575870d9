use Rattle.std.proofs.Common.{◌≡◌, ◌++◌}
use Rattle.adf_edits.specs.Index.{standing}
use Rattle.adf_edits.proofs.indexed.places_alone.Given as goal

abbrev pub invariant-loop-item : goal.invariant-loop-item
invariant-loop-item l = record {
  items : standing l.entries.items ≡ l.yielded;
  all : l.yielded ++ l.item-iterator.rest.items ≡ l.fn.items.items;
}
