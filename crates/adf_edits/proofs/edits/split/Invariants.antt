use Rattle.std.proofs.Common.{◌≡◌, ◌++◌}
use Rattle.std.specs.List.{filter}
use Rattle.adf_edits.specs.Edits.{is_within, without}
use Rattle.adf_edits.proofs.edits.split.Given as goal

abbrev pub invariant-loop-item : goal.invariant-loop-item
invariant-loop-item l = record {
  rest : l.rest.items ≡ without l.path l.yielded;
  within : l.within.items ≡ filter (is_within l.path) l.yielded;
  all : l.yielded ++ l.item-iterator.rest.items ≡ l.fn.items.items;
}
