use Rattle.std.proofs.Common.{drop}
use Rattle.adf_disk_cmd.proofs.Gathered.{GathersOn}
use Rattle.adf_partitions.specs.Plans.{cylinder_blocks, plan_value}
use Rattle.adf_plans.specs.PlanTexts.{behind_line}
use Rattle.adf_disk_cmd.proofs.gathering.gather.Given as goal

abbrev pub invariant-loop-i : goal.invariant-loop-i
invariant-loop-i g l =
    GathersOn (g.F.Files.bytes_of l.files) (cylinder_blocks (plan_value l.plan)) l.plan.partitions.items (behind_line l.text) l.behind
    (drop l.i l.plan.partitions.items) l.lines l.left l.given.items
