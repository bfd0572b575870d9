use Rattle.std.proofs.Common.{◌≡◌, take, true}
use Rattle.std.specs.List.{list_all}
use Rattle.adf_plans.specs.PlanTexts.{has_volume}
use Rattle.adf_plans.proofs.plan_text.first_volume_fault.Given as goal

abbrev pub invariant-loop-i : goal.invariant-loop-i
invariant-loop-i l = list_all (has_volume l.cylinder) (take l.i l.partitions) ≡ true
