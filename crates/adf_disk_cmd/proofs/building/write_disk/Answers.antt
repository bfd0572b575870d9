use Rattle.std.proofs.Common.{◌≡◌, ◌∙◌, ◌<◌, ◌*◌, ℕ, ap, arith, false, get_or, length, rules, true}
use Rattle.std.specs.List.{list_all}
use Rattle.adf_base.proofs.Results.{on_err}
use Rattle.adf_disk_cmd.proofs.BuiltDisks.{blocks_small, has_volume_at, tables_part, tables_written, volume_enough, written_more, written_part}
use Rattle.adf_disk_cmd.proofs.BuiltDisks.{written_whole}
use Rattle.adf_disk_cmd.proofs.NewVolumes.{MayBeNew, may_be_new}
use Rattle.adf_plans.specs.PlanTexts.{has_volume}
use Rattle.adf_partitions.specs.{Plans.PlanValue, Plans.cylinder_blocks, Plans.plan_value, declared.plan.PartitionPlan.PartitionPlan}
use Rattle.adf_disk_cmd.proofs.building.write_disk.Goals as goal

pub overflow_mul-blocks : goal.overflow_mul-blocks
overflow_mul-blocks g c =
    let p = c.partition-item.result in
    let small = blocks_small (plan_value c.args.plan.now) c.loop-partition.partition-index p c.requires.plan (search rules) (search rules) in
    let same = ap (λ (k : ℕ). p.cylinders * k) c.cylinder_blocks-cylinder.ensures in
    omega (arith, small, same)

pub write_volume-requires-clause-enough : goal.write_volume-requires-clause-enough
write_volume-requires-clause-enough g c = λ is.
    rw c.cylinder_blocks-cylinder.ensures
    (volume_enough (plan_value c.args.plan.now) c.args.given.now c.args.tables.now c.requires.tables c.loop-partition.partition-index
    c.partition-item.result (search rules) (search rules) (g.W.Sink.held c.args.output.now) (g.W.Sink.held c.loop-partition.output)
    (g.W.Sink.held c.loop-partition.output) c.loop-partition.left.now c.loop-partition.invariant.written is)

pub loop-partition-init : goal.loop-partition-init
loop-partition-init g c = record {
  works = search rules;
  written = tables_written (plan_value c.args.plan.now) c.args.given.now c.args.tables.now (g.W.Sink.held c.args.output.now)
      (g.W.Sink.held c.write_all.new.output) (search rules) c.requires.enough;
}

pub loop-partition-preserved : goal.loop-partition-preserved
loop-partition-preserved g c = record {
  works = c.write_volume.ensures.failed ∙ search rules;
  written = written_more (plan_value c.args.plan.now) c.args.given.now c.args.tables.now c.requires.tables c.loop-partition.partition-index
      c.partition-item.result (search rules) (search rules) (g.W.Sink.held c.args.output.now) (g.W.Sink.held c.loop-partition.output)
      (g.W.Sink.held c.write_volume.new.output) c.loop-partition.left.now c.loop-partition.invariant.written _ c.in_ok-left.left.now
      (ap (λ (k : ℕ). c.partition-item.result.cylinders * k) c.cylinder_blocks-cylinder.ensures) c.in_ok-left.ensures.volume c.in_ok-left.ensures.rest;
}

pub returns-in_err-write_all-clause-part : goal.returns-in_err-write_all-clause-part
returns-in_err-write_all-clause-part g c =
    on_err c.from_residual.result
    (tables_part (plan_value c.args.plan.now) c.args.given.now c.args.tables.now (g.W.Sink.held c.args.output.now)
    (g.W.Sink.held c.write_all.new.output) c.requires.tables c.in_err-write_all.ensures.err)

pub returns-in_err-left-clause-part : goal.returns-in_err-left-clause-part
returns-in_err-left-clause-part g c =
    on_err c.from_residual-in_err-left.result
    (written_part (plan_value c.args.plan.now) c.args.given.now c.args.tables.now c.requires.tables c.loop-partition.partition-index
    c.partition-item.result (search rules) (search rules) (g.W.Sink.held c.args.output.now) (g.W.Sink.held c.loop-partition.output)
    (g.W.Sink.held c.write_volume.new.output) c.loop-partition.left.now c.loop-partition.invariant.written _
    (ap (λ (k : ℕ). c.partition-item.result.cylinders * k) c.cylinder_blocks-cylinder.ensures) c.in_err-left.ensures.part)

pub returns-clause-ok : goal.returns-clause-ok
returns-clause-ok g c =
    written_whole (plan_value c.args.plan.now) c.args.given.now c.args.tables.now c.loop-partition.partition-index (g.W.Sink.held c.args.output.now)
    (g.W.Sink.held c.loop-partition.output) c.loop-partition.left.now c.requires.tables (search (rules, arith)) c.loop-partition.invariant.written

-- the partition has a volume
planned : (plan : PlanValue) (i : ℕ) (p : PartitionPlan) → list_all (has_volume (cylinder_blocks plan)) plan.partitions ≡ true
    → i < length plan.partitions → p ≡ get_or plan.partitions i p → p.given ≡ false → MayBeNew (p.cylinders * cylinder_blocks plan) p.name
planned plan i p all lt e =
    may_be_new (cylinder_blocks plan) p (rw (← e) at (has_volume_at (cylinder_blocks plan) plan.partitions i p all lt))

pub write_volume-requires-clause-size : goal.write_volume-requires-clause-size
write_volume-requires-clause-size g c = λ new.
    rw c.cylinder_blocks-cylinder.ensures
    (planned (plan_value c.args.plan.now) c.loop-partition.partition-index c.partition-item.result c.requires.volumes (search rules) (search rules)
    new).size

pub write_volume-requires-clause-label : goal.write_volume-requires-clause-label
write_volume-requires-clause-label g c = λ new.
    (planned (plan_value c.args.plan.now) c.loop-partition.partition-index c.partition-item.result c.requires.volumes (search rules) (search rules)
    new).label
