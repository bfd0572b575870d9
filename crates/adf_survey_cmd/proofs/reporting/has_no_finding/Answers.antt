use Rattle.std.proofs.Common.{◌∙◌, refl, sym}
use Rattle.adf_survey_cmd.proofs.Clean.{none_found, none_of}
use Rattle.adf_survey_cmd.proofs.reporting.has_no_finding.Goals as goal

pub returns : goal.returns
returns c = λ yes.
    none_found c.args.survey.now.image c.args.survey.now.image refl c.some_survey.ensures
    (λ w fs survey. none_of c.findings.result.now fs (c.findings.ensures w fs survey) (sym c.is_empty.ensures ∙ yes))
