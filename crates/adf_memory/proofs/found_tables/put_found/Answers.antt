use Rattle.adf_memory.specs.SurveyCalls.{IsEntryIn}
use Rattle.adf_memory.proofs.Filled.{begins_more, begins_none}
use Rattle.adf_memory.proofs.found_tables.put_found.Goals as goal

pub loop-i-init : goal.loop-i-init
loop-i-init c = begins_none (IsEntryIn c.args.judged.now.blocks) c.args.room.now

pub loop-i-preserved : goal.loop-i-preserved
loop-i-preserved c =
    begins_more (IsEntryIn c.args.judged.now.blocks) c.loop-i.i c.args.room.now c.loop-i.room c.put.new.table c.entry_row.result c.entry_row.ensures
    c.put.ensures c.loop-i.invariant
