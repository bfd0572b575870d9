use Rattle.std.proofs.Common.{◌≤◌}
use Rattle.adf_readings.proofs.versions.votes.Given as goal

abbrev pub invariant-loop-reading : goal.invariant-loop-reading
invariant-loop-reading l = l.votes ≤ l.reading-index
