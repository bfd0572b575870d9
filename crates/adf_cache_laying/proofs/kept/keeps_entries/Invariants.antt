use Rattle.std.proofs.Common.{◌≡◌, ◌<◌, ◌+◌, ℕ, true}
use Rattle.adf_findings.specs.Survey.{OnSurvey}
use Rattle.adf_caches.specs.Caches.{directory_header, is_found_directory}
use Rattle.adf_cache_laying.specs.LaidCaches.{IsSameButCache}
use Rattle.adf_cache_laying.proofs.kept.keeps_entries.Given as goal

abbrev pub invariant-loop-i : goal.invariant-loop-i
invariant-loop-i l = OnSurvey l.found.image (λ w _. (k : ℕ) → k < l.i → is_found_directory l.found.image w (k + 1) ≡ true
    → IsSameButCache l.found.image l.image (directory_header l.found.image w (k + 1)))
