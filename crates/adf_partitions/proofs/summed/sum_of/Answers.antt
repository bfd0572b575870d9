use Rattle.std.proofs.{lemmas.Grind.common_steps, Common.arith}
use Rattle.adf_base.proofs.WordLaws.{no_words, sum_words_more}
use Rattle.adf_partitions.proofs.summed.sum_of.Goals as goal

pub loop-i-init : goal.loop-i-init
loop-i-init c = grind (arith, no_words)

pub loop-i-preserved : goal.loop-i-preserved
loop-i-preserved c = grind (arith, sum_words_more)

pub returns : goal.returns
returns c = grind (arith, common_steps)
