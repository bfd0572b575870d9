use Rattle.std.proofs.{Common.arith, lemmas.Grind.common_steps}
use Rattle.adf_volume.proofs.WordBits.{all_set}
use Rattle.adf_findings.proofs.bits.agree.Goals as goal

pub returns-then-word-eq4294967295 : goal.returns-then-word-eq4294967295
returns-then-word-eq4294967295 c = grind (arith, common_steps, all_set)
