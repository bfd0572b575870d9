use Rattle.adf_edit_cmd.proofs.ListedDates.{no_civil_length}
use Rattle.adf_edit_cmd.proofs.dates.stamp_written.Goals as goal

pub returns-then-text-ne22 : goal.returns-then-text-ne22
returns-then-text-ne22 c = λ s is. absurd (no_civil_length c.args.text.now c.if-text-ne22.true s is)
