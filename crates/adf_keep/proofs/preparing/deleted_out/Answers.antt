use Rattle.std.proofs.Common.{arith}
use Rattle.adf_keep.specs.Rescued.{IsOfDeleted}
use Rattle.adf_keep.proofs.Rescues.{tells_all, tells_each}
use Rattle.adf_keep.proofs.preparing.deleted_out.Goals as goal

pub loop-left-preserved : goal.loop-left-preserved
loop-left-preserved c =
    tells_each (IsOfDeleted c.args.deleted.now c.args.first) c.args.left_out.now c.loop-left.left-index _ c.loop-left.out.items
    c.push_deleted.new.out.items (omega arith) c.loop-left.invariant c.in_ok-push_deleted.ensures.stay c.in_ok-push_deleted.ensures.told

pub returns : goal.returns
returns c = tells_all c.args.deleted.now c.args.first c.args.left_out.now c.loop-left.left-index c.loop-left.out.items (omega arith) c.loop-left.invariant
