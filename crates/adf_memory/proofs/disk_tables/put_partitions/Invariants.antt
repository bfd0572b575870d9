use Rattle.std.proofs.Common.{◌≡◌, take}
use Rattle.adf_memory.specs.{DiskTables.partition_table, Rooms.filled}
use Rattle.adf_memory.proofs.disk_tables.put_partitions.Given as goal

abbrev pub invariant-loop-i : goal.invariant-loop-i
invariant-loop-i l = l.room ≡ filled (partition_table (take l.i l.partitions)) l.initial.room
