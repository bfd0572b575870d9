use Rattle.std.proofs.Common.{subst}
use Rattle.adf_findings.specs.SurveyResult.{IsOfSurvey}
use Rattle.adf_findings.proofs.Openings.{whole_marks}
use Rattle.adf_findings.proofs.survey_result.Survey.whole_marks.Goals as goal

pub returns : goal.returns
returns c = λ w fs h. whole_marks c.args.self.now (subst IsOfSurvey c.self.view_is c.self.invariant) w fs h
