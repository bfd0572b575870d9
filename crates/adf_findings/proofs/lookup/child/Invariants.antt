use Rattle.std.proofs.Common.{ℕ, ◌≤◌}
use Rattle.adf_findings.specs.{Lookup.IsNamedChild, Survey.OnSurvey}
use Rattle.adf_findings.proofs.lookup.child.Given as goal

abbrev pub invariant-loop-before : goal.invariant-loop-before
invariant-loop-before l =
    OnSurvey l.survey.image (λ w _. (m : ℕ) → m ≤ l.before → IsNamedChild l.survey.image w l.parent l.name m → ⊥)
