use Rattle.std.proofs.Common.{length}
use Rattle.adf_plans.proofs.PlainTexts.{Continues}
use Rattle.adf_plans.proofs.host_files.plain_text.Given as goal

abbrev pub invariant-loop-line : goal.invariant-loop-line
invariant-loop-line l = Continues l.text l.plain.items l.left

abbrev pub decreases-loop-line : goal.decreases-loop-line
decreases-loop-line l = length l.left
