use Rattle.std.proofs.Common.{◌<◌, ℕ}
use Rattle.adf_findings.specs.Survey.{OnSurvey}
use Rattle.adf_cache_laying.specs.LaidCaches.{IsSamePart}
use Rattle.adf_cache_laying.proofs.alike.are_same_parts.Given as goal

abbrev pub invariant-loop-b : goal.invariant-loop-b
invariant-loop-b l = OnSurvey l.one.image (λ w _. OnSurvey l.other.image (λ v _. (k : ℕ) → k < l.b → IsSamePart w v k))
