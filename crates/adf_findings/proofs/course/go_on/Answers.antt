use Rattle.std.proofs.{Common.subst, Common.sym, Common.arith, lemmas.Grind.common_steps}
use Rattle.adf_findings.specs.Found.{IsNextPart}
use Rattle.adf_findings.proofs.CourseSteps.{skipped_on, taken_next, taken_on, to_skip, to_take}
use Rattle.adf_findings.proofs.course.go_on.Goals as goal

pub take-requires : goal.take-requires
take-requires c =
    let n = c.requires.due.1 in
    let o = to_take n c.word.ensures c.in_ok-part.ensures c.in-Some.part c.in-Some.is in
    record { next = subst (λ b. IsNextPart c.in-Some.part b c.judge_next.new.progress.found) (sym c.word.ensures) (taken_next n o) }

pub returns-in_ok-take-in-Some-clause-gone : goal.returns-in_ok-take-in-Some-clause-gone
returns-in_ok-take-in-Some-clause-gone c = λ s n.
    rw c.word.ensures (taken_on n (to_take n c.word.ensures c.in_ok-part.ensures c.in-Some.part c.in-Some.is)
    (rw c.word.ensures at c.in_ok-take-in-Some.ensures))

pub returns-in_ok-take-in-Some-clause-left : goal.returns-in_ok-take-in-Some-clause-left
returns-in_ok-take-in-Some-clause-left c = grind (arith, common_steps, to_take c.requires.due.1 c.word.ensures c.in_ok-part.ensures c.in-Some.part c.in-Some.is)

pub returns-in-None-clause-gone : goal.returns-in-None-clause-gone
returns-in-None-clause-gone c = λ s n. skipped_on n (to_skip n c.word.ensures c.in_ok-part.ensures c.in-None.is)
