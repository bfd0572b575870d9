use Rattle.std.proofs.Common.{◌≡◌, ◌+◌, drop}
use Rattle.adf_partitions.specs.Plans.{cylinders_of, plan_value, planned_cylinders}
use Rattle.adf_partitions.proofs.PlannedVolumes.{AreUpTo}
use Rattle.adf_partitions.proofs.tables_out.are_planned.Given as goal

abbrev pub invariant-loop-i : goal.invariant-loop-i
invariant-loop-i l = record {
  cylinders : l.low + cylinders_of (drop l.i l.plan.partitions.items) ≡ planned_cylinders (plan_value l.plan);
  planned : AreUpTo (plan_value l.plan) l.read l.i l.low;
}
