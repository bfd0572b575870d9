use Rattle.adf_memory.proofs.Filled.{one_left, one_put}
use Rattle.adf_memory.proofs.tables.put.Goals as goal

pub returns-then-at-table : goal.returns-then-at-table
returns-then-at-table g c = λ xs room at e. one_put xs room c.args.table.now c.args.at c.args.row at e c.if-at-table.true

pub returns-else-at-table : goal.returns-else-at-table
returns-else-at-table g c = λ xs room at e. one_left xs room c.args.table.now c.args.at c.args.row at e c.if-at-table.false
