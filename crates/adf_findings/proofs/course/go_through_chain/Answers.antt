use Rattle.std.proofs.Common.{◌+◌, ◌<◌, ◌≤◌, sym, ◌∙◌, arith}
use Rattle.adf_findings.proofs.CoursePlaces.{chain_done, header_named, header_skipped, header_taken}
use Rattle.adf_findings.proofs.CourseSteps.{below_gone, below_reached}
use Rattle.adf_findings.proofs.course.go_through_chain.Goals as goal

pub go_on-requires-clause-due : goal.go_on-requires-clause-due
go_on-requires-clause-due c =
    let x = c.loop-part.invariant.0 in
    below_reached c.below.ensures (header_named x c.requires.slot (λ e. c.loop-part-test.true (c.word.ensures ∙ e)))

pub returns-in-None : goal.returns-in-None
returns-in-None c =
    let x = c.loop-part.invariant.0 in
    let named = header_named x c.requires.slot (λ e. c.loop-part-test.true (c.word.ensures ∙ e)) in
    header_skipped x c.in-None.is (below_gone c.below.ensures named c.in_ok-header.ensures.gone)

pub loop-part-preserved : goal.loop-part-preserved
loop-part-preserved c =
    let x = c.loop-part.invariant.0 in
    let named = header_named x c.requires.slot (λ e. c.loop-part-test.true (c.word.ensures ∙ e)) in
    let less : c.go_on.new.progress.found.left < c.loop-part.progress.found.left = rw c.in-Some.is at c.in_ok-header.ensures.left in
    let all : c.loop-part.place + c.loop-part.progress.found.left ≤ c.args.progress.now.found.left = c.loop-part.invariant.2 in (
      header_taken x c.in-Some.is (below_gone c.below.ensures named c.in_ok-header.ensures.gone),
      omega arith,
      omega arith,
    )

pub returns : goal.returns
returns c = chain_done c.loop-part.invariant.0 (sym c.word.ensures ∙ c.loop-part-test.false)
