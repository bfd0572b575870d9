use Rattle.std.proofs.Common.{◌≡◌}
use Rattle.adf_unread.specs.Dropped.{tables_dropped}
use Rattle.adf_unread.proofs.dropping.drop_tables.Given as goal

abbrev pub invariant-loop-b : goal.invariant-loop-b
invariant-loop-b l = l.image ≡ tables_dropped l.marks l.initial.image l.b
