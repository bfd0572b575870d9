use Rattle.adf_partitions.specs.Plans.{cylinder_blocks, plan_value}
use Rattle.adf_found_plans.specs.FoundPlans.{AreFirstOf}
use Rattle.adf_found_plans.proofs.plans.are_partitions_of.Given as goal

abbrev pub invariant-loop-i : goal.invariant-loop-i
invariant-loop-i l = AreFirstOf l.i (cylinder_blocks (plan_value l.plan)) l.plan.partitions.items l.volumes
