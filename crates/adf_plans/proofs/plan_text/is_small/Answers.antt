use Rattle.std.proofs.Common.{arith}
use Rattle.adf_partitions.proofs.PlanSizes.{cylinder_sums}
use Rattle.adf_plans.proofs.plan_text.is_small.Goals as goal

pub loop-partition-init : goal.loop-partition-init
loop-partition-init c = grind (arith, cylinder_sums)

pub loop-partition-preserved : goal.loop-partition-preserved
loop-partition-preserved c = grind (arith, cylinder_sums)

pub returns-in-Some : goal.returns-in-Some
returns-in-Some c = grind (arith, cylinder_sums)

pub returns-in-None : goal.returns-in-None
returns-in-None c = grind (arith, cylinder_sums)
