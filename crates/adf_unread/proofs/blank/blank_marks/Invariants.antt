use Rattle.std.proofs.Common.{◌≡◌}
use Rattle.adf_unread.specs.Blank.{blank_among}
use Rattle.adf_unread.proofs.blank.blank_marks.Given as goal

abbrev pub invariant-loop-b : goal.invariant-loop-b
invariant-loop-b l = l.marks.items ≡ blank_among l.image l.b
