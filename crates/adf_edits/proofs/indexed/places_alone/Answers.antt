use Rattle.std.proofs.Common.{append_assoc, arith}
use Rattle.std.proofs.lemmas.Grind.{common_steps}
use Rattle.adf_edits.proofs.StandingPlaces.{pushed}
use Rattle.adf_edits.proofs.indexed.places_alone.Goals as goal

pub loop-item-preserved : goal.loop-item-preserved
loop-item-preserved c = record {
  items = grind (arith, common_steps, pushed);
  all = grind (arith, common_steps, append_assoc);
}
