use Rattle.std.proofs.Common.{◌≡◌, ◌++◌}
use Rattle.adf_cmd.specs.Listing.{lines_of}
use Rattle.adf_cmd.proofs.listing.push_lines.Given as goal

abbrev pub invariant-loop-i : goal.invariant-loop-i
invariant-loop-i l = l.text.items ≡ l.fn.text.items ++ lines_of l.number l.block l.i
