use Rattle.std.proofs.{lemmas.Grind.common_steps, Common.arith}
use Rattle.adf_partitions.proofs.tables.find_rdsk.Goals as goal

pub returns-then-is_rdsk-clause-first : goal.returns-then-is_rdsk-clause-first
returns-then-is_rdsk-clause-first c = grind (arith, common_steps)

pub returns-then-is_rdsk-clause-none : goal.returns-then-is_rdsk-clause-none
returns-then-is_rdsk-clause-none c = grind (arith, common_steps)

pub loop-b-preserved : goal.loop-b-preserved
loop-b-preserved c = grind (arith, common_steps)

pub returns-clause-first : goal.returns-clause-first
returns-clause-first c = grind (arith, common_steps)

pub returns-clause-none : goal.returns-clause-none
returns-clause-none c = grind (arith, common_steps)
