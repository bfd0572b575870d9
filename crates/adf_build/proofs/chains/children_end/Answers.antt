use Rattle.std.proofs.{Common.arith, lemmas.Grind.common_steps}
use Rattle.adf_build.proofs.Order.{low_step, mine_step, others_step}
use Rattle.adf_build.proofs.chains.children_end.Goals as goal

pub loop-end-preserved : goal.loop-end-preserved
loop-end-preserved c = grind (arith, common_steps, low_step, mine_step, others_step)
