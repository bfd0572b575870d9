use Rattle.std.specs.Prelude.{◌≡◌, ◌≤◌, ◌+◌}
use Rattle.adf_findings.specs.{OwnKind.tally, Survey.OnSurvey}
use Rattle.adf_findings.proofs.survey_result.Survey.tally.Given as goal

abbrev pub invariant-loop-b : goal.invariant-loop-b
invariant-loop-b l = record {
  few : l.tally.says + l.tally.others ≤ l.b;
  so_far : OnSurvey l.self.image (λ w fs. l.tally ≡ tally l.image w l.b);
}
