use Rattle.std.specs.Prelude.{find}
use Rattle.std.proofs.Common.{◌≡◌, drop}
use Rattle.adf_findings.specs.Survey.{OnSurvey}
use Rattle.adf_uncached.specs.Bits.{is_free}
use Rattle.adf_uncached.proofs.faults.first_free.Given as goal

abbrev pub invariant-loop-b : goal.invariant-loop-b
invariant-loop-b l =
    OnSurvey l.survey.image (λ w _. find (is_free l.survey.image w) l.blocks ≡ find (is_free l.survey.image w) (drop l.b-index l.blocks))
