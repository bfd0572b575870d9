use Rattle.std.proofs.{Common.arith, lemmas.Grind.common_steps}
use Rattle.adf_findings.proofs.BitSteps.{page_is}
use Rattle.adf_findings.proofs.bits.page_of.Goals as goal

pub returns : goal.returns
returns c = grind (arith, common_steps, page_is)
