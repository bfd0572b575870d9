use Rattle.std.proofs.Common.{◌≤◌}
use Rattle.adf_memory.specs.{Rooms.BeginsWith, SurveyCalls.IsLinkOf}
use Rattle.adf_memory.proofs.found_links.put_right.Given as goal

abbrev pub invariant-loop-i : goal.invariant-loop-i
invariant-loop-i l = record {
  few : l.count ≤ l.i;
  rows : BeginsWith (IsLinkOf l.judged.blocks) l.count l.initial.room l.room;
}
