use Rattle.std.proofs.Common.{◌≡◌, ◌++◌}
use Rattle.adf_edits.specs.Index.{standing}
use Rattle.adf_edits.proofs.indexed.items_of.Given as goal

abbrev pub invariant-loop-entry : goal.invariant-loop-entry
invariant-loop-entry l = record {
  items : l.items.items ≡ standing l.yielded;
  all : l.yielded ++ l.entry-iterator.rest.items ≡ l.fn.entries.items;
}
