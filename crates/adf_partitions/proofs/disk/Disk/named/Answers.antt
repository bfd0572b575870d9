use Rattle.std.proofs.{lemmas.Grind.common_steps, Common.arith}
use Rattle.adf_partitions.proofs.disk.Disk.named.Goals as goal

pub loop-partition-preserved : goal.loop-partition-preserved
loop-partition-preserved c = grind (arith, common_steps)

pub returns-then-is_named : goal.returns-then-is_named
returns-then-is_named c = grind (arith, common_steps)

pub returns : goal.returns
returns c = grind (arith, common_steps)
