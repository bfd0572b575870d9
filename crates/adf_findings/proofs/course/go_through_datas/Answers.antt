use Rattle.std.proofs.Common.{◌≡◌, ◌+◌, ◌*◌, suc, min, sym, subst, arith}
use Rattle.adf_blocks.specs.declared.layout.TheConstants.{EXTENSION, POINTERS}
use Rattle.adf_volume.specs.Image.{word_in}
use Rattle.adf_findings.specs.{declared.course.FileTable.FileTable, Courses.HasReachedMember, Courses.HasReachedNamed, Courses.end_in}
use Rattle.adf_findings.proofs.CoursePlaces.{datas_begin, datas_done, member_ends, member_first, member_named, member_table}
use Rattle.adf_findings.proofs.course.go_through_datas.Goals as goal

pub loop-m-init : goal.loop-m-init
loop-m-init c =
    let none : 0 ≡ min (min c.data_count-count.result (POINTERS * (c.args.exts + 1))) (POINTERS * 0) = omega arith in
    subst (HasReachedMember c.args.image.now c.args.progress.now _ 0 c.args.b) none
    (member_first (datas_begin c.requires.at c.data_count-count.ensures))

pub go_through_table-requires-clause-at : goal.go_through_table-requires-clause-at
go_through_table-requires-clause-at c =
    subst (HasReachedNamed c.args.image.now c.loop-m.progress _ c.loop-m.m c.loop-m.holder)
    (omega (arith, c.loop-m-test.true, c.min-end.ensures, c.div_ceil-m-end.ensures))
    (member_named c.loop-m.invariant (omega (arith, c.loop-m-test.true, c.min-end.ensures, c.div_ceil-m-end.ensures)))

pub loop-m-preserved : goal.loop-m-preserved
loop-m-preserved c =
    let image = c.args.image.now in
    let m = c.loop-m.m in
    let x : FileTable = record { node = c.args.node; head = c.args.b; count = c.data_count-count.result; room = POINTERS * (c.args.exts + 1) } in
    let one : suc m ≡ m + 1 = omega arith in
    subst (λ a. HasReachedMember image c.go_through_table.new.progress x (m + 1) a (end_in x (m + 1))) (sym c.word-holder.ensures)
    (subst (λ j. HasReachedMember image c.go_through_table.new.progress x j (word_in image c.loop-m.holder EXTENSION) (end_in x (m + 1))) one
    (member_ends c.in_ok-go_through_table.ensures))

pub returns : goal.returns
returns c =
    datas_done (member_table c.loop-m.invariant)
    (λ j lt few. omega (arith, c.loop-m-test.false, c.min-end.ensures, c.div_ceil-m-end.ensures))

pub returns-then-count-eq0 : goal.returns-then-count-eq0
returns-then-count-eq0 c =
    datas_done (datas_begin c.requires.at c.data_count-count.ensures) (λ j lt few. omega (arith, c.if-count-eq0.true, lt))
