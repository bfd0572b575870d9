use Rattle.std.proofs.Common.{subst, ◌∙◌}
use Rattle.adf_findings.specs.SurveyResult.{IsOfSurvey}
use Rattle.adf_findings.proofs.{Contested.kept_alone, Keeping.tells_each}
use Rattle.adf_findings.proofs.survey_result.Survey.number_alone.Goals as goal

pub returns : goal.returns
returns c = λ w fs h.
    c.alone_at.ensures ∙ kept_alone (tells_each c.args.self.now (subst IsOfSurvey c.self.view_is c.self.invariant) w fs h) c.args.b
