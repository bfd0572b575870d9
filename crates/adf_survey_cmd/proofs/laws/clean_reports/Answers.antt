use Rattle.std.proofs.Common.{None, inl, inr, List, ℕ, false, refl, subst}
use Rattle.adf_survey_cmd.specs.{Answers.InputAnswer, CommandLine.asked_beside, CommandLine.report}
use Rattle.adf_survey_cmd.proofs.Volumes.{front_all}
use Rattle.adf_survey_cmd.proofs.laws.clean_reports.Goals as goal

pub returns-clause-silent : goal.returns-clause-silent
returns-clause-silent c = λ r json input reply answer zero. elim answer [
  | inl bad ↦ absurd bad
  | inr is ↦ (is.promised.silent zero refl, is.silent zero)
]

pub returns-clause-fits : goal.returns-clause-fits
returns-clause-fits c = λ list json input reply answer short zero.
    let r = asked_beside None false None (report list json) in
    let here : InputAnswer r input reply = subst (λ (front : List ℕ). InputAnswer r front reply) (front_all input short) answer in
    elim here [
      | inl bad ↦ absurd bad
      | inr is ↦
          let (w, survey) = is.promised.clean zero (record { blocks = refl; map = refl; blank = refl }) in
          (_, _, c.no_finding.ensures.fits input w survey)
    ]
