use Rattle.std.proofs.Common.{◌≡◌, ◌≤◌, ◌+◌, ◌*◌, ◌^◌, drop, map}
use Rattle.adf_edits.specs.Edits.{edit_value}
use Rattle.adf_edit_cmd.specs.Script.{files_len}
use Rattle.adf_edit_cmd.proofs.script.files_len.Given as goal

abbrev pub invariant-loop-edit : goal.invariant-loop-edit
invariant-loop-edit l = record {
  small : l.len ≤ l.edit-index * 2 ^ 32;
  total : l.len + files_len (map edit_value (drop l.edit-index l.edits)) ≡ files_len (map edit_value l.fn.edits);
}
