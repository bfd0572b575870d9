use Rattle.std.proofs.Common.{◌↔◌, drop, ℕ}
use Rattle.adf_findings.specs.{Lookup.LeadsTo, Survey.OnSurvey}
use Rattle.adf_findings.proofs.survey_result.Survey.find.Given as goal

abbrev pub invariant-loop-name : goal.invariant-loop-name
invariant-loop-name l =
    OnSurvey l.self.image (λ w _. (n : ℕ)
    → LeadsTo l.self.image w 0 l.path n ↔ LeadsTo l.self.image w l.node (drop l.name-index l.path) n)
