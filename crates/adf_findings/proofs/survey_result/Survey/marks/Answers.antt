use Rattle.std.proofs.Common.{subst}
use Rattle.adf_findings.specs.SurveyResult.{IsOfSurvey}
use Rattle.adf_findings.proofs.Openings.{kept_marks}
use Rattle.adf_findings.proofs.survey_result.Survey.marks.Goals as goal

pub returns : goal.returns
returns c = λ w fs h. kept_marks c.args.self.now (subst IsOfSurvey c.self.view_is c.self.invariant) w fs h
