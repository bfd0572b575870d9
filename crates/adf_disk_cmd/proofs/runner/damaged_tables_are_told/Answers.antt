use Rattle.adf_disk_cmd.proofs.DamagedTables as tables
use Rattle.adf_disk_cmd.proofs.runner.damaged_tables_are_told.Goals as goal

pub returns : goal.returns
returns c = λ r bytes f reply first told. tables.damaged_tables_are_told r bytes f reply first told
