use Rattle.adf_memory.specs.{Rooms.BeginsWith, SurveyCalls.IsEntryIn}
use Rattle.adf_memory.proofs.found_tables.put_found.Given as goal

abbrev pub invariant-loop-i : goal.invariant-loop-i
invariant-loop-i l = BeginsWith (IsEntryIn l.judged.blocks) l.i l.initial.room l.room
