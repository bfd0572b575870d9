use Rattle.std.proofs.{Common.arith, lemmas.Grind.common_steps}
use Rattle.adf_volume.proofs.pieces.joined.Goals as goal

pub loop-piece-preserved : goal.loop-piece-preserved
loop-piece-preserved c = grind (arith, common_steps)
