use Rattle.std.proofs.Common.{ℕ, ◌<◌}
use Rattle.adf_volume.specs.Walk.{Has, Role.Page}
use Rattle.adf_findings.specs.Survey.{OnSurvey}
use Rattle.adf_findings.proofs.survey_result.Survey.is_page.Given as goal

abbrev pub invariant-loop-i : goal.invariant-loop-i
invariant-loop-i l = record {
  none : OnSurvey l.self.image (λ w _. (k : ℕ) → k < l.i → Has w (Page k) l.b → ⊥);
}
