use Rattle.std.proofs.{Common.arith, lemmas.Grind.common_steps}
use Rattle.adf_names.proofs.EqualNames.{ascii_no, ascii_yes}
use Rattle.adf_names.proofs.name.are_same.Goals as goal

pub returns-then-a-b : goal.returns-then-a-b
returns-then-a-b c = grind (arith, common_steps)

pub returns-then-upper : goal.returns-then-upper
returns-then-upper c = grind (arith, ascii_no)

pub loop-i-preserved : goal.loop-i-preserved
loop-i-preserved c = grind arith

pub returns : goal.returns
returns c = grind (arith, ascii_yes)
