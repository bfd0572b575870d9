use Rattle.std.proofs.Common.{◌≡◌, false}
use Rattle.adf_unread.specs.Dropped.{names_data_of}
use Rattle.adf_unread.proofs.dropping.names_data_of.Given as goal

abbrev pub invariant-loop-s : goal.invariant-loop-s
invariant-loop-s l = names_data_of l.image l.header l.b l.s ≡ false
