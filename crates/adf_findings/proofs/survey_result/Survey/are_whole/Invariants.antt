use Rattle.std.specs.Prelude.{◌≤◌, ℕ}
use Rattle.adf_volume.specs.Walk.{node_block}
use Rattle.adf_findings.specs.{Files.grave, Sound.IsSound, Survey.OnSurvey}
use Rattle.adf_findings.proofs.survey_result.Survey.are_whole.Given as goal

abbrev pub invariant-loop-n : goal.invariant-loop-n
invariant-loop-n l = record {
  so_far : OnSurvey l.self.image (λ w fs. (n : ℕ) → 1 ≤ n → n ≤ l.n → IsSound l.self.image w (grave fs) n (node_block w n));
}
