use Rattle.std.proofs.Common.{◌≤◌, length, map}
use Rattle.adf_edits.specs.Edits.{edit_value}
use Rattle.adf_edit_cmd.specs.declared.script.TheConstants.{MOST_LINES}
use Rattle.adf_edit_cmd.proofs.Scripts.{Continues}
use Rattle.adf_edit_cmd.proofs.script.read_script.Given as goal

abbrev pub invariant-loop-settings : goal.invariant-loop-settings
invariant-loop-settings l = record {
  lines : Continues l.text (map edit_value l.edits.items) l.left;
  few : length l.edits.items ≤ MOST_LINES;
}

abbrev pub decreases-loop-settings : goal.decreases-loop-settings
decreases-loop-settings l = length l.left
