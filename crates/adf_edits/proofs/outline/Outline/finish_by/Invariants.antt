use Rattle.std.proofs.Common.{◌≡◌, ◌++◌}
use Rattle.adf_tree.specs.Additions.{AllHaveRoomBy}
use Rattle.adf_edits.specs.Outline.{tree_of_outline_by, with_first}
use Rattle.adf_edits.proofs.outline.Outline.finish_by.Given as goal

abbrev pub invariant-loop-item : goal.invariant-loop-item
invariant-loop-item l = record {
  tree : l.draft.tree ≡ tree_of_outline_by l.fn.letters (with_first l.fn.self l.yielded);
  room : AllHaveRoomBy l.fn.letters l.yielded;
  all : l.yielded ++ l.item-iterator.rest.items ≡ l.fn.self.additions;
}
