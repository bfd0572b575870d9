use Rattle.std.proofs.{Common.arith, lemmas.Grind.common_steps}
use Rattle.adf_texts.proofs.volume_lines.push_date_line.Goals as goal

pub returns : goal.returns
returns c = λ date dates. grind (arith, common_steps, c.in_ok-push_date.ensures date dates)
