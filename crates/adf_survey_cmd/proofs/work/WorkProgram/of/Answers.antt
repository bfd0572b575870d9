use Rattle.std.proofs.Common.{refl}
use Rattle.adf_survey_cmd.specs.CommandLine.{inquiry_value}
use Rattle.adf_survey_cmd.proofs.work.WorkProgram.of.Goals as goal

pub returns-clause-ok : goal.returns-clause-ok
returns-clause-ok c = (
  inquiry_value c.in_ok-inquiry.inquiry,
  c.in_ok-inquiry.ensures.ok,
  record { blocks = refl; map = refl; blank = refl; serves = c.in_ok-task.ensures.ok },
)
