use Rattle.std.proofs.Common.{arith, rules}
use Rattle.adf_partitions.specs.Plans.{plan_value}
use Rattle.adf_partitions.proofs.PlannedVolumes.{read_back}
use Rattle.adf_partitions.proofs.tables_out.write_tables.Goals as goal

pub returns-then-branch : goal.returns-then-branch
returns-then-branch c =
    read_back (plan_value c.args.plan.now) c.resize.new.self.items (search (rules, arith))
    (rw c.deref.ensures.value at (c.in_ok-is_read.ensures c.if-branch.true))
