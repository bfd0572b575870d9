use Rattle.std.proofs.{Common.arith, lemmas.Grind.common_steps}
use Rattle.adf_names.proofs.escapes.push_escape.Goals as goal

pub returns-in_ok-push-3 : goal.returns-in_ok-push-3
returns-in_ok-push-3 c = grind (arith, common_steps)
