use Rattle.std.proofs.Common.{◌≡◌}
use Rattle.adf_unread.specs.Dropped.{zeroed}
use Rattle.adf_unread.proofs.dropping.empty_unread.Given as goal

abbrev pub invariant-loop-b : goal.invariant-loop-b
invariant-loop-b l = l.image ≡ zeroed l.marks l.initial.image l.b
