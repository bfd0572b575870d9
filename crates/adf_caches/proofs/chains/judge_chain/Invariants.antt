use Rattle.adf_findings.specs.Survey.{OnSurvey}
use Rattle.adf_caches.proofs.OneMark.{unmarked}
use Rattle.adf_caches.specs.Judging.{AreFresh, MarksNamed}
use Rattle.adf_caches.specs.Marking.{KeepsOthers}
use Rattle.adf_caches.proofs.ChainWays.{IsOnChain}
use Rattle.adf_caches.proofs.chains.judge_chain.Given as goal

abbrev pub invariant-loop-b : goal.invariant-loop-b
invariant-loop-b l = record {
  on : OnSurvey l.survey.image (λ w _. AreFresh l.survey.image w l.fn.d l.initial.marks.blocks.items
      → IsOnChain l.survey.image w l.fn.d l.fn.first l.initial.marks l.marks l.b);
  blocks : OnSurvey l.survey.image (λ w _. MarksNamed l.survey.image w l.fn.d l.initial.marks.blocks.items l.marks.blocks.items);
  others : OnSurvey l.survey.image (λ w _. KeepsOthers w l.fn.d l.initial.marks.entries.items l.marks.entries.items);
}

abbrev pub decreases-loop-b : goal.decreases-loop-b
decreases-loop-b l = unmarked l.marks.blocks.items
