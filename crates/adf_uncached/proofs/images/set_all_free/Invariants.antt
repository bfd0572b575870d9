use Rattle.std.proofs.Common.{◌≡◌, drop, fold}
use Rattle.adf_findings.specs.Survey.{OnSurvey}
use Rattle.adf_uncached.specs.Bits.{with_free}
use Rattle.adf_uncached.proofs.images.set_all_free.Given as goal

abbrev pub invariant-loop-b : goal.invariant-loop-b
invariant-loop-b l =
    OnSurvey l.survey.image (λ w _. fold (with_free w) l.initial.copy l.blocks ≡ fold (with_free w) l.copy (drop l.b-index l.blocks))
