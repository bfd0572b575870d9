use Rattle.std.proofs.Common.{◌≡◌, ◌≤◌, ◌*◌, length, take}
use Rattle.adf_names.specs.Escapes.{escaped}
use Rattle.adf_memory.specs.Rooms.{filled}
use Rattle.adf_memory.proofs.escapes.escape_text.Given as goal

abbrev pub invariant-loop-i : goal.invariant-loop-i
invariant-loop-i l = record {
  few : l.count ≤ 4 * l.i;
  count : l.count ≡ length (escaped (take l.i l.name));
  text : l.room ≡ filled (escaped (take l.i l.name)) l.initial.room;
}
