use Rattle.std.proofs.Common.{◌≡◌, ◌≤◌, ◌<◌, ◌*◌, ℕ, List, ap, arith, get_or, length, rules}
use Rattle.adf_disk_cmd.proofs.{BuiltDisks.blocks_small, Gathered.gathered_end, Gathered.gathered_next}
use Rattle.adf_partitions.specs.{Plans.PlanValue, Plans.cylinder_blocks, Plans.plan_value, declared.plan.PartitionPlan.PartitionPlan}
use Rattle.adf_plans.specs.PlanTexts.{behind_line}
use Rattle.adf_disk_cmd.proofs.gathering.gather.Goals as goal

pub overflow_mul-asked : goal.overflow_mul-asked
overflow_mul-asked g c =
    let p : PartitionPlan = c.partition-item.result in
    let small = blocks_small (plan_value c.args.plan.now) c.loop-i.i p c.requires (search rules) (search rules) in
    let same = ap (λ (k : ℕ). p.cylinders * k) c.cylinder_blocks-cylinder.ensures in
    omega (arith, small, same)

pub loop-i-preserved : goal.loop-i-preserved
loop-i-preserved g c =
    let plan : PlanValue = plan_value c.args.plan.now in
    let ps : List PartitionPlan = plan.partitions in
    let p : PartitionPlan = c.partition-item.result in
    let within : c.loop-i.i < length ps = search rules in
    let at : p ≡ get_or ps c.loop-i.i p = search rules in
    let taken = rw (c.cylinder_blocks-cylinder.ensures, c.cut_line-in-loop-i.ensures.line) at c.in_ok-left.ensures in
    rw c.cut_line-in-loop-i.ensures.rest
    (gathered_next (g.F.Files.bytes_of c.args.files.now) (cylinder_blocks plan) ps (behind_line c.args.text.now) c.args.behind.now c.loop-i.i p
    c.loop-i.lines.now c.loop-i.left.now c.loop-i.given.items taken.0 c.in_ok-left.left.now c.push_asked.new.given.items within at c.loop-i.invariant
    taken.1 taken.2)

pub returns : goal.returns
returns g c =
    let plan : PlanValue = plan_value c.args.plan.now in
    let past : length plan.partitions ≤ c.loop-i.i = search (rules, arith) in
    rw c.in_ok-extend_from_slice.ensures.items
    (gathered_end (g.F.Files.bytes_of c.args.files.now) (cylinder_blocks plan) plan.partitions (behind_line c.args.text.now) c.args.behind.now c.loop-i.i
    c.loop-i.lines.now c.loop-i.left.now c.loop-i.given.items past c.loop-i.invariant)
