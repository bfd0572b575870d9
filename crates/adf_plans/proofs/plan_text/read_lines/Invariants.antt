use Rattle.std.proofs.Common.{length}
use Rattle.adf_plans.proofs.TextLines.{Continues}
use Rattle.adf_plans.proofs.plan_text.read_lines.Given as goal

abbrev pub invariant-loop-partition : goal.invariant-loop-partition
invariant-loop-partition l = Continues l.text l.partitions.items l.left

abbrev pub decreases-loop-partition : goal.decreases-loop-partition
decreases-loop-partition l = length l.left
