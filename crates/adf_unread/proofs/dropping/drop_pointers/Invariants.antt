use Rattle.std.proofs.Common.{◌≡◌}
use Rattle.adf_unread.specs.Dropped.{pointers_dropped}
use Rattle.adf_unread.proofs.dropping.drop_pointers.Given as goal

abbrev pub invariant-loop-s : goal.invariant-loop-s
invariant-loop-s l = l.image ≡ pointers_dropped l.marks l.initial.image l.b l.s
