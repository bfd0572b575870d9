use Rattle.std.proofs.Common.{◌≤◌, length}
use Rattle.adf_edit_cmd.specs.declared.script.TheConstants.{MOST_LINES}
use Rattle.adf_edit_cmd.proofs.script.script_of.Given as goal

abbrev pub invariant-loop-line : goal.invariant-loop-line
invariant-loop-line l = length l.script.edits ≤ MOST_LINES
