use Rattle.std.proofs.{Common.arith, lemmas.Grind.common_steps}
use Rattle.adf_texts.proofs.volume_lines.push_opening_lines.Goals as goal

pub returns : goal.returns
returns c = λ date dates. grind (
  arith,
  common_steps,
  c.in_ok-push_date_line.ensures date dates,
  c.in_ok-push_date_line-2.ensures date dates,
  c.push_date_line-3.ensures date dates,
)
