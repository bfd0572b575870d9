use Rattle.std.specs.Prelude.{◌≡◌, ◌≤◌}
use Rattle.adf_findings.specs.{OwnKind.is_full_file, OwnKind.passing, Survey.OnSurvey}
use Rattle.adf_findings.proofs.survey_result.Survey.full_files.Given as goal

abbrev pub invariant-loop-n : goal.invariant-loop-n
invariant-loop-n l = record {
  few : l.count ≤ l.n;
  so_far : OnSurvey l.self.image (λ w fs. l.count ≡ passing (is_full_file l.image w) l.n);
}
