use Rattle.std.proofs.Common.{take}
use Rattle.adf_keep.specs.Rescued.{TellsDeleted}
use Rattle.adf_keep.proofs.preparing.deleted_out.Given as goal

abbrev pub invariant-loop-left : goal.invariant-loop-left
invariant-loop-left l = TellsDeleted l.deleted l.first (take l.left-index l.left_out) l.out.items
