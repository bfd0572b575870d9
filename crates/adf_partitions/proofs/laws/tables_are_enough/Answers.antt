use Rattle.adf_partitions.proofs.TablesEnough.{disk_tells, lack_tells, tables_tell}
use Rattle.adf_partitions.proofs.laws.tables_are_enough.Goals as goal

pub returns-clause-tables : goal.returns-clause-tables
returns-clause-tables c = λ bytes rest t enough. tables_tell bytes rest enough t

pub returns-clause-none : goal.returns-clause-none
returns-clause-none c = λ bytes rest f enough. lack_tells bytes rest enough f

pub returns-clause-disk : goal.returns-clause-disk
returns-clause-disk c = λ bytes rest n t ps d. disk_tells bytes rest n t ps d
