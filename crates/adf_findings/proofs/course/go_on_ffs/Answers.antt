use Rattle.std.proofs.{Common.sym, Common.subst, Common.arith, lemmas.Grind.common_steps}
use Rattle.adf_volume.specs.Image.{table_word}
use Rattle.adf_findings.specs.Courses.{IsGoneOn, IsNamed}
use Rattle.adf_findings.proofs.course.go_on_ffs.Goals as goal

pub go_on-requires-clause-due : goal.go_on-requires-clause-due
go_on-requires-clause-due c = grind (arith, common_steps)

pub returns : goal.returns
returns c = λ s n.
    let image = c.args.image.now in
    let i = table_word c.args.k in
    subst (λ due. IsGoneOn image s due.part c.args.holder i c.go_on.new.progress c.in_ok-gone.gone) c.data_due-due.ensures
    (c.in_ok-gone.ensures.gone s (subst (λ due. IsNamed image c.args.progress.now due c.args.holder i s) (sym c.data_due-due.ensures) n))
