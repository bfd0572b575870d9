use Rattle.std.proofs.Common.{◌+◌, arith, rules}
use Rattle.adf_partitions.specs.Plans.{cylinder_blocks, plan_value}
use Rattle.adf_partitions.proofs.PlanSizes.{cylinders_at, cylinders_fit, plans_at}
use Rattle.adf_partitions.proofs.PlannedVolumes.{left_at, none_left, up_to_more}
use Rattle.adf_partitions.proofs.tables_out.are_planned.Goals as goal

pub overflow_add-low : goal.overflow_add-low
overflow_add-low c = grind (arith, cylinders_at, cylinders_fit)

pub loop-i-preserved : goal.loop-i-preserved
loop-i-preserved c =
    let plan = plan_value c.args.plan.now in
    let ps = plan.partitions in
    let i = c.loop-i.i in
    let p = c.index-planned.result.now in
    let more = cylinders_at ps i p (search (rules, arith)) (search rules) in
    record {
      cylinders = omega (arith, c.loop-i.invariant.cylinders, more);
      planned = up_to_more plan c.args.read.now i c.loop-i.low p c.index-read-i.result c.loop-i.invariant.planned
          (plans_at ps i p (search (rules, arith)) (search rules)) (left_at c.args.read.now i c.index-read-i.result (search rules) (search rules))
          (rw c.cylinder_blocks-cylinder.ensures at (c.is_planned.ensures c.if-not-is_planned.false));
    }

pub returns : goal.returns
returns c = λ is.
    let plan = plan_value c.args.plan.now in
    c.loop-i.invariant.planned (none_left (cylinder_blocks plan) (c.loop-i.i + 1) c.loop-i.low c.loop-i.i plan.partitions c.args.read.now
    (search (rules, arith)) (search rules))
