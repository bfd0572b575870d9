use Rattle.std.proofs.Common.{take}
use Rattle.adf_keep.specs.Rescued.{TellsClaims}
use Rattle.adf_keep.proofs.preparing.claims_out.Given as goal

abbrev pub invariant-loop-left : goal.invariant-loop-left
invariant-loop-left l = TellsClaims l.claims (take l.left-index l.left_out) l.out.items
