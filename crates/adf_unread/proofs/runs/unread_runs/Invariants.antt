use Rattle.std.proofs.Common.{◌≡◌}
use Rattle.adf_unread.specs.Runs.{runs_among}
use Rattle.adf_unread.proofs.runs.unread_runs.Given as goal

abbrev pub invariant-loop-b : goal.invariant-loop-b
invariant-loop-b l = l.runs.items ≡ runs_among l.marks l.b
