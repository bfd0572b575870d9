use Rattle.std.specs.Prelude.{◌≡◌}
use Rattle.adf_findings.specs.{OwnKind.tally, Survey.OnSurvey}
use Rattle.adf_findings.proofs.survey_result.Survey.has_no_data.Given as goal

abbrev pub invariant-loop-b : goal.invariant-loop-b
invariant-loop-b l = OnSurvey l.self.image (λ w fs. tally l.image w l.b ≡ record { says = 0; others = 0 })
