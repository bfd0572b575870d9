use Rattle.adf_memory.specs.{Rooms.BeginsWith, SurveyCalls.IsFindingIn}
use Rattle.adf_memory.proofs.found_tables.put_findings.Given as goal

abbrev pub invariant-loop-i : goal.invariant-loop-i
invariant-loop-i l = BeginsWith (IsFindingIn l.most) l.i l.initial.room l.room
