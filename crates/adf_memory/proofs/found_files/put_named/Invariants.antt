use Rattle.adf_memory.specs.{Rooms.BeginsWith, SurveyCalls.IsFoundBlock}
use Rattle.adf_memory.proofs.found_files.put_named.Given as goal

abbrev pub invariant-loop-k : goal.invariant-loop-k
invariant-loop-k l = BeginsWith (IsFoundBlock l.image) l.k l.initial.table l.table
