use Rattle.std.proofs.Common.{◌≡◌, ◌+◌, drop}
use Rattle.adf_partitions.specs.Plans.{cylinders_of, planned_cylinders, plan_value}
use Rattle.adf_partitions.proofs.plan.planned_cylinders.Given as goal

abbrev pub invariant-loop-partition : goal.invariant-loop-partition
invariant-loop-partition l = l.cylinders + cylinders_of (drop l.partition-index l.plan.partitions.items) ≡ planned_cylinders (plan_value l.plan)
