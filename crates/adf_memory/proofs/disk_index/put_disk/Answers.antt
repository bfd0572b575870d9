use Rattle.std.proofs.Common.{◌≡◌, ◌∙◌, ap, arith, length, rules}
use Rattle.std.proofs.lemmas.Grind.{common_steps}
use Rattle.adf_memory.specs.DiskTables.{table_disk}
use Rattle.adf_memory.proofs.DiskReadings.{same_partitions, table_fault, table_whole}
use Rattle.adf_memory.proofs.disk_index.put_disk.Goals as goal

pub returns-in-Ok : goal.returns-in-Ok
returns-in-Ok c = record {
  number = search rules;
  partitions = grind (arith, common_steps, same_partitions);
  whole = grind (arith, common_steps, table_whole);
  fault = λ zero ps f readable first.
      let count : c.len.result ≡ length c.in-Ok.read.partitions.items = omega (arith, c.len.ensures) in
      c.table_disk.ensures ∙ ap (λ k. table_disk k c.in-Ok.read.fault) count
      ∙ table_fault c.args.bytes.now c.args.blocks _ ps _ f c.in-Ok.ensures.read readable first;
  unchanged = search rules;
  begun = search rules;
}
