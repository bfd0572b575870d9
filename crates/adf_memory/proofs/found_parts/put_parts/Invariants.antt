use Rattle.std.proofs.Common.{◌≤◌, length}
use Rattle.adf_memory.specs.Rooms.{BeginsWith}
use Rattle.adf_memory.proofs.found_parts.put_parts.Given as goal

abbrev pub invariant-loop-b : goal.invariant-loop-b
invariant-loop-b l = BeginsWith (λ row. row.node ≤ length l.holdings) l.b l.initial.room l.room
