use Rattle.adf_memory.specs.SurveyCalls.{IsFindingIn}
use Rattle.adf_memory.proofs.Filled.{begins_more, begins_none}
use Rattle.adf_memory.proofs.found_tables.put_findings.Goals as goal

pub loop-i-init : goal.loop-i-init
loop-i-init c = begins_none (IsFindingIn c.args.most) c.args.room.now

pub loop-i-preserved : goal.loop-i-preserved
loop-i-preserved c =
    begins_more (IsFindingIn c.args.most) c.loop-i.i c.args.room.now c.loop-i.room c.put.new.table c.finding_row.result c.finding_row.ensures c.put.ensures
    c.loop-i.invariant
