use Rattle.std.proofs.Common.{◌≡◌, ◌≤◌, ◌+◌, ◌*◌, ◌^◌, drop}
use Rattle.adf_partitions.specs.Plans.{cylinders_of, plan_value, planned_cylinders}
use Rattle.adf_plans.proofs.plan_text.is_small.Given as goal

abbrev pub invariant-loop-partition : goal.invariant-loop-partition
invariant-loop-partition l = record {
  small : l.cylinders ≤ 2 ^ 33 + l.partition-index * 2 ^ 32;
  cylinders : l.cylinders + cylinders_of (drop l.partition-index l.plan.partitions.items) ≡ planned_cylinders (plan_value l.plan);
}
