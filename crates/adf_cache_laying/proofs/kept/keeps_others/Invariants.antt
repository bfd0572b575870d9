use Rattle.std.specs.Prelude.{Some}
use Rattle.std.proofs.Common.{◌≡◌, ◌<◌, ℕ, false}
use Rattle.adf_base.specs.Words.{block}
use Rattle.adf_findings.specs.{Members.owning_entry, Survey.OnSurvey}
use Rattle.adf_caches.specs.Caches.{is_found_directory}
use Rattle.adf_cache_laying.proofs.kept.keeps_others.Given as goal

abbrev pub invariant-loop-b : goal.invariant-loop-b
invariant-loop-b l = OnSurvey l.found.image (λ w _. (k n : ℕ) → k < l.b → owning_entry w k ≡ Some n
    → is_found_directory l.found.image w n ≡ false → block l.image k ≡ block l.found.image k)
