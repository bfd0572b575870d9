use Rattle.std.proofs.Common.{◌≡◌, length, take}
use Rattle.adf_check.specs.Volumes.{OnVolume}
use Rattle.adf_memory.specs.{Rooms.filled, Tables.all_datas, Tables.entry_table}
use Rattle.adf_memory.proofs.tables.put_tables.Given as goal

abbrev pub invariant-loop-i : goal.invariant-loop-i
invariant-loop-i l = record {
  first : OnVolume l.volume (λ _ m. l.first ≡ length (all_datas (take l.i m.places)));
  entries : OnVolume l.volume (λ t m. l.entries ≡ filled (take l.i (entry_table t m)) l.initial.entries);
  blocks : OnVolume l.volume (λ _ m. l.blocks ≡ filled (all_datas (take l.i m.places)) l.initial.blocks);
}
