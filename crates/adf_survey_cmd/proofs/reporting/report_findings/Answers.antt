use Rattle.adf_survey_cmd.proofs.Clean.{clean_status}
use Rattle.adf_survey_cmd.proofs.reporting.report_findings.Goals as goal

pub returns-then-tells_nothing-clause-clean : goal.returns-then-tells_nothing-clause-clean
returns-then-tells_nothing-clause-clean c = λ zero plain. c.is_clean.ensures (clean_status c.is_clean.result c.new.result.items zero) plain
