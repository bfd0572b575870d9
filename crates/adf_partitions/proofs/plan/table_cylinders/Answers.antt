use Rattle.std.proofs.Common.{arith}
use Rattle.adf_partitions.proofs.PlanSizes.{kept_fit, some_blocks}
use Rattle.adf_partitions.proofs.plan.table_cylinders.Goals as goal

pub nonzero_div-result : goal.nonzero_div-result
nonzero_div-result c = grind (arith, some_blocks)

pub overflow_cast-result : goal.overflow_cast-result
overflow_cast-result c = grind (arith, kept_fit)
