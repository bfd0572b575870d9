use Rattle.std.specs.Prelude.{Some, slice_get}
use Rattle.std.proofs.Common.{◌≡◌, ◌<◌, ℕ}
use Rattle.adf_findings.specs.Survey.{FindingValue, OnSurvey}
use Rattle.adf_cache_laying.specs.LaidCaches.{IsOfTypeOrLink}
use Rattle.adf_cache_laying.proofs.alike.are_of_type_or_links.Given as goal

abbrev pub invariant-loop-k : goal.invariant-loop-k
invariant-loop-k l = OnSurvey l.survey.image (λ _ fs. (j : ℕ) (f : FindingValue) → j < l.k → slice_get fs j ≡ Some f → IsOfTypeOrLink f)
