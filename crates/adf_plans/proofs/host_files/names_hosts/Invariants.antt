use Rattle.std.proofs.Common.{length}
use Rattle.adf_plans.proofs.PlainTexts.{Seeks}
use Rattle.adf_plans.proofs.host_files.names_hosts.Given as goal

abbrev pub invariant-loop-line : goal.invariant-loop-line
invariant-loop-line l = Seeks l.text l.left

abbrev pub decreases-loop-line : goal.decreases-loop-line
decreases-loop-line l = length l.left
