use Rattle.std.proofs.{Common.arith, Common.append_assoc, lemmas.List.Elements.filter-append, lemmas.Grind.common_steps}
use Rattle.adf_edits.proofs.edits.split.Goals as goal

pub loop-item-preserved : goal.loop-item-preserved
loop-item-preserved c = grind (arith, common_steps, filter-append, append_assoc)
