use Rattle.std.proofs.Common.{◌≡◌}
use Rattle.adf_unread.specs.Mapped.{unread_among}
use Rattle.adf_unread.proofs.mapped.map_marks.Given as goal

abbrev pub invariant-loop-b : goal.invariant-loop-b
invariant-loop-b l = l.marks.items ≡ unread_among l.map l.b
