use Rattle.std.proofs.Common.{◌+◌, ◌<◌, ◌≤◌, sym, ◌∙◌, arith}
use Rattle.adf_findings.proofs.CoursePlaces.{ext_is_named, ext_skipped, ext_taken, exts_begin, exts_done}
use Rattle.adf_findings.proofs.CourseSteps.{below_gone, below_reached}
use Rattle.adf_findings.proofs.course.go_through_exts.Goals as goal

pub loop-due-init : goal.loop-due-init
loop-due-init c = (exts_begin c.args.node c.args.b c.requires.1 c.requires.2, omega arith)

pub go_on-requires-clause-due : goal.go_on-requires-clause-due
go_on-requires-clause-due c =
    let x = c.loop-due.invariant.0 in below_reached c.below-due.ensures (ext_is_named x (λ e. c.loop-due-test.true (c.word.ensures ∙ e)))

pub returns-in-None-clause-datas : goal.returns-in-None-clause-datas
returns-in-None-clause-datas c =
    let x = c.loop-due.invariant.0 in
    ext_skipped x c.in-None.is (below_gone c.below-due.ensures (ext_is_named x (λ e. c.loop-due-test.true (c.word.ensures ∙ e))) c.in_ok-ext.ensures.gone)

pub loop-due-preserved : goal.loop-due-preserved
loop-due-preserved c =
    let x = c.loop-due.invariant.0 in
    let less : c.go_on.new.progress.found.left < c.loop-due.progress.found.left = rw c.in-Some.is at c.in_ok-ext.ensures.left in
    let all : c.loop-due.exts + c.loop-due.progress.found.left ≤ c.args.progress.now.found.left = c.loop-due.invariant.1 in
    let named = ext_is_named x (λ e. c.loop-due-test.true (c.word.ensures ∙ e)) in
    (ext_taken x c.in-Some.is (below_gone c.below-due.ensures named c.in_ok-ext.ensures.gone), omega arith)

pub returns-clause-datas : goal.returns-clause-datas
returns-clause-datas c = exts_done c.loop-due.invariant.0 (sym c.word.ensures ∙ c.loop-due-test.false)
