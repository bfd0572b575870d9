use Rattle.std.proofs.Common.{arith, below_more, rules}
use Rattle.adf_names.proofs.EqualNames.{ascii_no, ascii_short, ascii_yes}
use Rattle.adf_partitions.proofs.names.are_same.Goals as goal

pub returns-then-a-b : goal.returns-then-a-b
returns-then-a-b c = grind (arith, ascii_short)

pub returns-then-upper : goal.returns-then-upper
returns-then-upper c = grind (arith, ascii_no)

pub loop-i-preserved : goal.loop-i-preserved
loop-i-preserved c = below_more _ _ c.loop-i.invariant (search rules)

pub returns : goal.returns
returns c = grind (arith, ascii_yes)
