use Rattle.std.proofs.Common.{arith}
use Rattle.adf_keep.proofs.Rescues.{tells_at}
use Rattle.adf_keep.proofs.preparing.claims_out.Goals as goal

pub loop-left-preserved : goal.loop-left-preserved
loop-left-preserved c =
    tells_at c.args.claims.now c.args.left_out.now c.loop-left.left-index _ c.loop-left.out.items c.push_told.new.out.items (omega arith)
    c.loop-left.invariant c.in_ok-push_told.ensures.stay c.in_ok-push_told.ensures.told
