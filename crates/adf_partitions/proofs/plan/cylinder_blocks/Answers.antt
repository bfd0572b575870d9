use Rattle.std.proofs.Common.{arith}
use Rattle.adf_partitions.proofs.PlanSizes.{cylinder_fits}
use Rattle.adf_partitions.proofs.plan.cylinder_blocks.Goals as goal

pub overflow_mul-result : goal.overflow_mul-result
overflow_mul-result c = grind (arith, cylinder_fits)
