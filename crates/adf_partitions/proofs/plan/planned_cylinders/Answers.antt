use Rattle.std.proofs.Common.{arith}
use Rattle.adf_partitions.proofs.PlanSizes.{cylinder_sums}
use Rattle.adf_partitions.proofs.plan.planned_cylinders.Goals as goal

pub overflow_add-cylinders : goal.overflow_add-cylinders
overflow_add-cylinders c = grind (arith, cylinder_sums)

pub loop-partition-preserved : goal.loop-partition-preserved
loop-partition-preserved c = grind (arith, cylinder_sums)

pub returns : goal.returns
returns c = grind (arith, cylinder_sums)
