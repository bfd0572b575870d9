use Rattle.std.proofs.{Common.append_assoc, Common.arith, lemmas.Grind.common_steps, lemmas.List.map-append}
use Rattle.adf_edits.proofs.StandingPlaces.{pushed}
use Rattle.adf_edits.proofs.moves.push_moved.Goals as goal

pub loop-item-preserved : goal.loop-item-preserved
loop-item-preserved c = grind (arith, common_steps, append_assoc, map-append, pushed)
