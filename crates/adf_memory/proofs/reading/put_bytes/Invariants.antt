use Rattle.std.proofs.Common.{◌≡◌, ◌≤◌, ◌-◌, drop, length, take}
use Rattle.adf_memory.specs.Areas.{bytes_from}
use Rattle.adf_memory.proofs.reading.put_bytes.Given as goal

abbrev pub invariant-loop-put : goal.invariant-loop-put
invariant-loop-put l = record {
  within : l.put ≤ length l.room;
  enough : l.put ≤ length (bytes_from l.image l.kind l.datas l.from);
  bytes : take l.put l.room ≡ take l.put (bytes_from l.image l.kind l.datas l.from);
  behind : drop l.put l.room ≡ drop l.put l.initial.room;
}

abbrev pub decreases-loop-put : goal.decreases-loop-put
decreases-loop-put l = length l.initial.room - l.put
