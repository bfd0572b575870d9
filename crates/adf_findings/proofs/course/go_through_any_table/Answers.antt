use Rattle.std.proofs.Common.{◌≡◌, ◌+◌, ◌<◌, subst, arith}
use Rattle.adf_findings.specs.Courses.{HasReachedNamed, end_in}
use Rattle.adf_findings.proofs.CoursePlaces.{data_gone, data_is_named}
use Rattle.adf_findings.proofs.course.go_through_any_table.Goals as goal

pub loop-k-init : goal.loop-k-init
loop-k-init c = c.requires.at

pub go_on-requires-clause-due : goal.go_on-requires-clause-due
go_on-requires-clause-due c =
    let y = c.loop-k.invariant in
    let to : c.loop-k.k < end_in c.args.table.now (c.args.member.now.number + 1) = omega (arith, c.loop-k-test.true, c.table_end-k-end.ensures) in
    (y.course, data_is_named y c.loop-k.auto.k to c.data_due-due.ensures (λ ofs. c.next_data-next.ensures))

pub loop-k-preserved : goal.loop-k-preserved
loop-k-preserved c =
    let y = c.loop-k.invariant in
    let to : c.loop-k.k < end_in c.args.table.now (c.args.member.now.number + 1) = omega (arith, c.loop-k-test.true, c.table_end-k-end.ensures) in
    data_gone y c.data_due-due.ensures
    (c.in_ok-go_on.ensures.gone y.course (data_is_named y c.loop-k.auto.k to c.data_due-due.ensures (λ ofs. c.next_data-next.ensures)))

pub returns : goal.returns
returns c =
    let some = c.requires.some in
    let end : c.loop-k.k ≡ end_in c.args.table.now (c.args.member.now.number + 1) =
    omega (arith, c.loop-k-test.false, c.loop-k.auto.k-end, c.table_end-k-end.ensures) in
    subst (HasReachedNamed c.args.image.now c.loop-k.progress c.args.table.now
    c.args.member.now.number c.args.member.now.block) end c.loop-k.invariant
