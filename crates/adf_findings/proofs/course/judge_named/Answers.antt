use Rattle.std.proofs.Common.{cond, refl, ap}
use Rattle.adf_blocks.specs.declared.cause.Cause.TheVariants.{SameName}
use Rattle.adf_findings.specs.{declared.judge.Facts.Facts, Survey.JudgementValue.clean, Survey.JudgementValue.reported}
use Rattle.adf_findings.specs.declared.judge.Judgement.TheVariants.{Clean, Reported, Skipped}
use Rattle.adf_findings.proofs.Judgements.{judged_else, judged_named}
use Rattle.adf_findings.proofs.course.judge_named.Goals as goal

pub returns-then-branch-clause-judged : goal.returns-then-branch-clause-judged
returns-then-branch-clause-judged c =
    let x = c.args.reference.now in
    let facts : Facts = record { is_enough = x.due.is_enough; is_absent = c.is_absent.result; context = x.due.context } in
    let kept = c.in_ok-keep_name-in-Clean in
    judged_named c.args.image.now c.args.progress.now x c.args.part facts refl c.is_absent.ensures refl
    kept.field-0 c.in-Clean.ensures kept.ensures.new Clean (ap (λ t. cond t clean (reported x.block SameName)) c.if-branch.true)

pub returns-else-branch-clause-judged : goal.returns-else-branch-clause-judged
returns-else-branch-clause-judged c =
    let x = c.args.reference.now in
    let facts : Facts = record { is_enough = x.due.is_enough; is_absent = c.is_absent.result; context = x.due.context } in
    let kept = c.in_ok-keep_name-in-Clean in
    judged_named c.args.image.now c.args.progress.now x c.args.part facts refl c.is_absent.ensures refl
    kept.field-0 c.in-Clean.ensures kept.ensures.new (Reported x.block SameName) (ap (λ t. cond t clean (reported x.block SameName))
    c.if-branch.false)

pub returns-in_ok-keep_name-in-Reported-clause-judged : goal.returns-in_ok-keep_name-in-Reported-clause-judged
returns-in_ok-keep_name-in-Reported-clause-judged c =
    let x = c.args.reference.now in
    let facts : Facts = record { is_enough = x.due.is_enough; is_absent = c.is_absent.result; context = x.due.context } in
    judged_else c.args.image.now c.args.progress.now c.args.reference.now c.args.part facts refl c.is_absent.ensures
    refl (Reported c.in-Reported.at c.in-Reported.cause) c.in-Reported.ensures (λ e. cc)

pub returns-in-Skipped-clause-judged : goal.returns-in-Skipped-clause-judged
returns-in-Skipped-clause-judged c =
    let x = c.args.reference.now in
    let facts : Facts = record { is_enough = x.due.is_enough; is_absent = c.is_absent.result; context = x.due.context } in
    judged_else c.args.image.now c.args.progress.now c.args.reference.now c.args.part facts refl c.is_absent.ensures
    refl (Skipped c.in-Skipped.at c.in-Skipped.cause) c.in-Skipped.ensures (λ e. cc)
