use Rattle.adf_memory.specs.SurveyCalls.{IsFoundBlock}
use Rattle.adf_memory.proofs.Filled.{begins_more, begins_none}
use Rattle.adf_memory.proofs.found_files.put_named.Goals as goal

pub loop-k-init : goal.loop-k-init
loop-k-init c = begins_none (IsFoundBlock c.args.image.now) c.args.table.now

pub loop-k-preserved : goal.loop-k-preserved
loop-k-preserved c =
    begins_more (IsFoundBlock c.args.image.now) c.loop-k.k c.args.table.now c.loop-k.table c.put.new.table c.own_block.result c.own_block.ensures
    c.put.ensures c.loop-k.invariant
