use Rattle.std.proofs.Common.{◌≡◌, ◌++◌, length, map}
use Rattle.adf_edits.specs.Edits.{edit_value}
use Rattle.adf_edit_cmd.proofs.EditSteps.{GoesOn}
use Rattle.adf_edit_cmd.proofs.editing.edit_all.Given as goal

abbrev pub invariant-loop-edit : goal.invariant-loop-edit
invariant-loop-edit l = record {
  rest : GoesOn (map edit_value l.fn.edits.items) l.fn.given l.fn.outline (map edit_value l.edit-iterator.rest.items) l.given l.outline;
  all : l.yielded ++ l.edit-iterator.rest.items ≡ l.fn.edits.items;
  count : l.line ≡ length l.yielded;
}
