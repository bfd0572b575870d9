use Rattle.std.proofs.Common.{◌==◌, ◌∙◌, refl, ap}
use Rattle.adf_blocks.specs.declared.layout.TheConstants.{SECONDARY_TYPE, ST_FILE}
use Rattle.adf_base.specs.Words.{word}
use Rattle.adf_findings.proofs.Lookups.{file_between, file_told}
use Rattle.adf_findings.proofs.survey_result.Survey.is_file.Goals as goal

pub returns-in-Some : goal.returns-in-Some
returns-in-Some c = λ w fs survey.
    let some = (c.in-Some.ensures.some w fs survey).0 refl in
    let block = c.in-Some.ensures.block w fs survey in
    file_told c.args.self.now.image w fs survey c.args.n (c.word.result == ST_FILE) some.0 some.1
    (ap (λ v. v == ST_FILE) (c.word.ensures ∙ ap (λ b. word b SECONDARY_TYPE) block))

pub returns-in-None : goal.returns-in-None
returns-in-None c = λ w fs survey.
    (λ t. cc, λ at. (c.in-None.ensures.some w fs survey).1 (file_between c.args.self.now.image w fs survey c.args.n at.0 at.1))
