use Rattle.adf_disk_cmd.proofs.HeldTables.{tables_ends}
use Rattle.adf_disk_cmd.specs.CommandLine.{list}
use Rattle.adf_disk_cmd.proofs.list_input.list_part.Goals as goal

pub returns-in-Ok-clause-ends : goal.returns-in-Ok-clause-ends
returns-in-Ok-clause-ends g c = λ all held.
    tables_ends all _ _ _ held c.blocks_of.ensures (list c.args.telling.json) c.in-Ok.disk.partitions.items c.in-Ok.disk.fault _ _ _
    (rw c.as_slice-tables.ensures.value at c.in-Ok.ensures) c.write_list.ensures.ends
