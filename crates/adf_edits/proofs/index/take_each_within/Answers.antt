use Rattle.std.proofs.{Common.append_assoc, Common.arith, lemmas.Grind.common_steps, lemmas.List.Edits.map_over_more}
use Rattle.adf_edits.specs.Index.{left_by}
use Rattle.adf_edits.proofs.LeftPlaces.{taken_more}
use Rattle.adf_edits.proofs.index.take_each_within.Goals as goal

pub loop-entry-preserved : goal.loop-entry-preserved
loop-entry-preserved c =
    grind (arith, common_steps, append_assoc, taken_more, map_over_more (left_by c.args.path.now) c.args.entries.now c.loop-entry.entries)
