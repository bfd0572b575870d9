use Rattle.std.proofs.Common.{◌≡◌, ◌++◌, ℕ, List, length, take}
use Rattle.adf_memory.specs.Rooms.{filled}
use Rattle.adf_memory.proofs.tables.put_blocks.Given as goal

abbrev pub invariant-loop-i : goal.invariant-loop-i
invariant-loop-i l = (xs room : List ℕ) → l.first ≡ length xs → l.initial.table ≡ filled xs room → l.table ≡ filled (xs ++ take l.i l.datas) room
