use Rattle.std.proofs.Common.{◌≡◌, arith, refl, rules}
use Rattle.std.proofs.lemmas.Grind.{common_steps}
use Rattle.adf_disk_cmd.proofs.BuiltDisks.{given_at, given_end, given_fit, given_small}
use Rattle.adf_disk_cmd.specs.Builds.{given_cylinders, given_size}
use Rattle.adf_partitions.specs.Plans.{plan_value}
use Rattle.adf_disk_cmd.proofs.building.given_bytes.Goals as goal

pub overflow_add-cylinders : goal.overflow_add-cylinders
overflow_add-cylinders c =
    let plan = plan_value c.args.plan.now in
    let p = c.partition-item.result in
    let more = given_at plan.partitions c.loop-partition.partition-index p (search rules) (search rules) in
    let size : given_size p ≡ p.cylinders = rw c.if-partition.true refl in
    omega (arith, c.loop-partition.invariant, given_fit plan c.requires)

pub loop-partition-preserved : goal.loop-partition-preserved
loop-partition-preserved c = grind (arith, common_steps, given_at)

pub overflow_mul-result-2 : goal.overflow_mul-result-2
overflow_mul-result-2 c =
    let plan = plan_value c.args.plan.now in
    let none = given_end plan.partitions c.loop-partition.partition-index (search (rules, arith)) in
    let all : c.loop-partition.cylinders ≡ given_cylinders plan.partitions = omega (arith, c.loop-partition.invariant) in
    let small = given_small plan c.requires in
    rw (all, c.cylinder_blocks.ensures) (omega arith)

pub returns : goal.returns
returns c = grind (arith, common_steps, given_end)
