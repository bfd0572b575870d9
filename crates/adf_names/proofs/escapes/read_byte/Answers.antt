use Rattle.std.proofs.{Common.arith, lemmas.Grind.common_steps}
use Rattle.adf_names.proofs.escapes.read_byte.Goals as goal

pub returns-in_ok-unescape-in-92-clause-some : goal.returns-in_ok-unescape-in-92-clause-some
returns-in_ok-unescape-in-92-clause-some c = grind (arith, common_steps)

pub returns-in-len1-up-clause-some : goal.returns-in-len1-up-clause-some
returns-in-len1-up-clause-some c = grind (arith, common_steps)
