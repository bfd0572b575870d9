use Rattle.std.proofs.Common.{◌≡◌, ◌++◌, map}
use Rattle.adf_edits.specs.{Edits.rebased, Index.IsSoundIndex, Index.standing}
use Rattle.adf_edits.proofs.moves.push_moved.Given as goal

abbrev pub invariant-loop-item : goal.invariant-loop-item
invariant-loop-item l = record {
  standing : standing l.places.entries.items ≡ standing l.initial.places.entries.items ++ map (rebased l.from l.to) l.yielded;
  sound : IsSoundIndex l.places;
  all : l.yielded ++ l.item-iterator.rest.items ≡ l.fn.within.items;
}
