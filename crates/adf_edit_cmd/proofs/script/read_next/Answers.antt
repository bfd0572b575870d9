use Rattle.std.proofs.{Common.inl, Common.inr, Common.arith, lemmas.Grind.common_steps}
use Rattle.adf_edit_cmd.proofs.script.read_next.Goals as goal

pub returns-then-number-gt-MOST_LINES : goal.returns-then-number-gt-MOST_LINES
returns-then-number-gt-MOST_LINES c =
    (grind (arith, common_steps), inr (omega (arith, c.requires, c.len-number.ensures, c.if-number-gt-MOST_LINES.true)))

pub returns-in-Err-BadText : goal.returns-in-Err-BadText
returns-in-Err-BadText c = (grind (arith, common_steps), inl (c.in-Err-BadText.ensures.bad cc))
