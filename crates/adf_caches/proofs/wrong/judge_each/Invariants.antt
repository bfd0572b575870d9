use Rattle.std.proofs.Common.{[]}
use Rattle.adf_findings.specs.Survey.{OnSurvey}
use Rattle.adf_caches.specs.Judging.{AreJudged}
use Rattle.adf_caches.proofs.wrong.judge_each.Given as goal

abbrev pub invariant-loop-i : goal.invariant-loop-i
invariant-loop-i l = OnSurvey l.survey.image (λ w _. AreJudged l.survey.image w 0 l.initial.marks [] → AreJudged l.survey.image w l.i l.marks l.wrong.items)
