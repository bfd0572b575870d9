use Rattle.std.proofs.Common.{◌<◌, ◌+◌, ℕ}
use Rattle.adf_findings.specs.Survey.{OnSurvey}
use Rattle.adf_cache_laying.specs.LaidCaches.{IsAtSamePlace}
use Rattle.adf_cache_laying.proofs.alike.are_at_same_places.Given as goal

abbrev pub invariant-loop-i : goal.invariant-loop-i
invariant-loop-i l = OnSurvey l.one.image (λ w _. OnSurvey l.other.image (λ v _. (k : ℕ) → k < l.i → IsAtSamePlace w v (k + 1)))
