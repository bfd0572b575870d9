use Rattle.std.proofs.Common.{◌≤◌, length}
use Rattle.adf_memory.specs.declared.found_parts.FoundPart.{FoundPart}
use Rattle.adf_memory.proofs.Filled.{begins_more, begins_none}
use Rattle.adf_memory.proofs.found_parts.put_parts.Goals as goal

pub loop-b-init : goal.loop-b-init
loop-b-init c = begins_none (λ row. row.node ≤ length c.args.holdings.now) c.args.room.now

pub loop-b-preserved : goal.loop-b-preserved
loop-b-preserved c =
    let holds : FoundPart → Type 0 = λ row. row.node ≤ length c.args.holdings.now in
    begins_more holds c.loop-b.b c.args.room.now c.loop-b.room c.put.new.table c.part_of.result c.part_of.ensures c.put.ensures c.loop-b.invariant
