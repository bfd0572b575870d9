use Rattle.std.proofs.Common.{arith}
use Rattle.adf_memory.specs.SurveyCalls.{IsLinkOf}
use Rattle.adf_memory.proofs.Filled.{begins_more, begins_none}
use Rattle.adf_memory.proofs.found_links.put_right.Goals as goal

pub loop-i-init : goal.loop-i-init
loop-i-init c = record { few = omega arith; rows = begins_none (IsLinkOf c.args.judged.now.blocks) c.args.room.now }

pub loop-i-preserved : goal.loop-i-preserved
loop-i-preserved c =
    let holds = IsLinkOf c.args.judged.now.blocks in
    record {
      few = omega (arith, c.loop-i.invariant.few);
      rows = begins_more holds c.loop-i.count c.args.room.now c.loop-i.room c.put.new.table c.in-Some.row c.in-Some.ensures c.put.ensures
          c.loop-i.invariant.rows;
    }
