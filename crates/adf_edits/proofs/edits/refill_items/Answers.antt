use Rattle.std.proofs.{Common.arith, lemmas.List.Edits.map_over_more, lemmas.Grind.common_steps}
use Rattle.adf_edits.specs.Edits.{refilled_if}
use Rattle.adf_edits.proofs.edits.refill_items.Goals as goal

pub loop-item-preserved : goal.loop-item-preserved
loop-item-preserved c = grind (arith, common_steps, map_over_more (refilled_if c.args.path.now c.args.bytes.now) c.args.items.now c.loop-item.items)
