use Rattle.std.proofs.{Common.arith, lemmas.Grind.common_steps}
use Rattle.adf_manifest.proofs.digits.push_pairs.Goals as goal

pub returns : goal.returns
returns c = grind (arith, common_steps)
