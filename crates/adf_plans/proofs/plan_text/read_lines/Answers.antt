use Rattle.adf_plans.proofs.TextLines.{lines_ended}
use Rattle.adf_plans.proofs.plan_text.read_lines.Goals as goal

pub returns-in-None-clause-lines : goal.returns-in-None-clause-lines
returns-in-None-clause-lines c = lines_ended c.args.text.now c.loop-partition.left.now c.loop-partition.partitions.items c.loop-partition.invariant
