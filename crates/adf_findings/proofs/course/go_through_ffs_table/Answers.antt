use Rattle.std.proofs.Common.{◌≡◌, ◌+◌, ◌-◌, ◌*◌, ◌<◌, refl, sym, subst, ap, ◌∙◌, arith}
use Rattle.adf_base.specs.Words.{word}
use Rattle.adf_blocks.specs.declared.layout.TheConstants.{FIRST_POINTER, POINTERS}
use Rattle.adf_names.specs.declared.kind.Kind.TheVariants.{Ofs, Ffs}
use Rattle.adf_volume.specs.Image.{word_in}
use Rattle.adf_findings.specs.Courses.{HasReachedNamed, end_in}
use Rattle.adf_findings.proofs.{CoursePlaces.data_gone, CoursePlaces.due_named, CoursePlaces.holder_inside, DataTaking.data_next, DataTaking.data_taken}
use Rattle.adf_findings.proofs.course.go_through_ffs_table.Goals.{then-is_free+in_ok-take, else-is_free+in_ok-go_on_ffs}
use Rattle.adf_findings.proofs.course.go_through_ffs_table.Goals as goal

pub block-pointers-requires : goal.block-pointers-requires
block-pointers-requires c = holder_inside c.requires.at

pub loop-k-init : goal.loop-k-init
loop-k-init c = c.requires.at

pub take-requires : goal.take-requires
take-requires c =
    let to : c.loop-k.k < end_in c.args.table.now (c.args.member.now.number + 1) = omega (arith, c.loop-k-test.true, c.table_end-k-end.ensures) in
    let i = FIRST_POINTER - (c.loop-k.k - POINTERS * c.args.member.now.number) in
    let named : c.word-b.result ≡ word_in c.args.image.now c.args.member.now.block i =
    c.word-b.ensures ∙ ap (λ x. word x i) c.block-pointers.ensures.block in
    let yes = c.if-is_free.true in
    record {
      next = data_next c.loop-k.invariant c.requires.kind c.loop-k.auto.k to named c.requires.whole
          (c.is_free.ensures.from yes) (c.is_free.ensures.below yes) (c.is_free.ensures.free yes);
    }

pub go_on_ffs-requires-clause-due : goal.go_on_ffs-requires-clause-due
go_on_ffs-requires-clause-due c =
    let y = c.loop-k.invariant in
    let to : c.loop-k.k < end_in c.args.table.now (c.args.member.now.number + 1) = omega (arith, c.loop-k-test.true, c.table_end-k-end.ensures) in
    (y.course, due_named y {next = 0} c.loop-k.auto.k to refl (λ ofs. absurd (let e : Ffs ≡ Ofs = sym c.requires.kind ∙ ofs in cc)))

pub loop-k-preserved : goal.loop-k-preserved
loop-k-preserved c =
    let y = c.loop-k.invariant in
    let to : c.loop-k.k < end_in c.args.table.now (c.args.member.now.number + 1) = omega (arith, c.loop-k-test.true, c.table_end-k-end.ensures) in
    let next = c.loop-k.k + 1 in
    let i = FIRST_POINTER - (c.loop-k.k - POINTERS * c.args.member.now.number) in
    let named : c.word-b.result ≡ word_in c.args.image.now c.args.member.now.block i =
    c.word-b.ensures ∙ ap (λ x. word x i) c.block-pointers.ensures.block in
    let image = c.args.image.now in
    let x = c.args.table.now in
    let m = c.args.member.now.number in
    let a = c.args.member.now.block in
    elim c.if-is_free.branch [
      | then-is_free+in_ok-take w ↦
          subst (λ p. HasReachedNamed image p x m a next) (sym w.progress-is)
          (data_taken y c.requires.kind c.loop-k.auto.k to named c.requires.whole (c.is_free.ensures.from w.if-is_free.true)
          (c.is_free.ensures.below w.if-is_free.true) (c.is_free.ensures.free w.if-is_free.true) w.in_ok-take.ensures)
      | else-is_free+in_ok-go_on_ffs w ↦
          let named = due_named y {next = 0} c.loop-k.auto.k to refl (λ ofs. absurd (let e : Ffs ≡ Ofs = sym c.requires.kind ∙ ofs in cc)) in
          subst (λ p. HasReachedNamed image p x m a next) (sym w.progress-is)
          (data_gone y {next = 0} refl (w.in_ok-go_on_ffs.ensures y.course named))
    ]

pub returns : goal.returns
returns c =
    let some = c.requires.some in
    let end : c.loop-k.k ≡ end_in c.args.table.now (c.args.member.now.number + 1) =
    omega (arith, c.loop-k-test.false, c.loop-k.auto.k-end, c.table_end-k-end.ensures) in
    subst (HasReachedNamed c.args.image.now c.loop-k.progress c.args.table.now
    c.args.member.now.number c.args.member.now.block) end c.loop-k.invariant
