use Rattle.std.proofs.Common.{◌≡◌, ◌++◌, map}
use Rattle.adf_edits.specs.Edits.{rebased}
use Rattle.adf_edits.proofs.edits.push_moved.Given as goal

abbrev pub invariant-loop-item : goal.invariant-loop-item
invariant-loop-item l = record {
  pushed : l.items.items ≡ l.fn.items.items ++ map (rebased l.from l.to) l.yielded;
  all : l.yielded ++ l.item-iterator.rest.items ≡ l.fn.within.items;
}
