use Rattle.std.proofs.Common.{◌≡◌, ◌≢◌, ◌<◌, ◌+◌, ℕ, true}
use Rattle.adf_findings.specs.Survey.{OnSurvey}
use Rattle.adf_caches.specs.Caches.{first_cache, is_found_directory}
use Rattle.adf_cache_laying.proofs.directories.entries_have_caches.Given as goal

abbrev pub invariant-loop-i : goal.invariant-loop-i
invariant-loop-i l = OnSurvey l.survey.image (λ w _. (k : ℕ) → k < l.i → is_found_directory l.survey.image w (k + 1) ≡ true
    → first_cache l.survey.image w (k + 1) ≢ 0)
