use Rattle.std.proofs.Common.{sym}
use Rattle.adf_survey_cmd.proofs.work.Work.on_bytes.Goals as goal

pub returns-clause-blames : goal.returns-clause-blames
returns-clause-blames g c = record { read = sym c.write_answer.ensures.read; written = c.write_answer.ensures.written }
