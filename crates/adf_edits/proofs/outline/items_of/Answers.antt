use Rattle.std.proofs.{Common.arith, lemmas.Grind.common_steps}
use Rattle.adf_edits.proofs.Additions.{entry_step}
use Rattle.adf_edits.proofs.outline.items_of.Goals as goal

pub loop-i-preserved : goal.loop-i-preserved
loop-i-preserved c = grind (arith, common_steps, entry_step)
