use Rattle.std.proofs.Common.{◌+◌}
use Rattle.adf_findings.specs.Survey.{OnSurvey}
use Rattle.adf_caches.specs.Judging.{AreLacking}
use Rattle.adf_caches.proofs.wrong.mark_lacking.Given as goal

abbrev pub invariant-loop-i : goal.invariant-loop-i
invariant-loop-i l = OnSurvey l.survey.image (λ w _.
    AreLacking l.survey.image w l.named.items 1 (l.i + 1) l.initial.wrong.items l.wrong.items)
