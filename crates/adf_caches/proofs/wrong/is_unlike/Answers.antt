use Rattle.std.proofs.Common.{◌∙◌, ap, sym}
use Rattle.adf_base.specs.Words.{word}
use Rattle.adf_blocks.specs.declared.layout.TheConstants.{EXTENSION}
use Rattle.adf_caches.proofs.Wrongness.{judged_by, judged_none}
use Rattle.adf_caches.proofs.wrong.is_unlike.Goals as goal

pub returns-in-Some-clause-told : goal.returns-in-Some-clause-told
returns-in-Some-clause-told c = λ w fs survey fresh unnamed.
    judged_by c.args.survey.now.image w c.args.d c.judge_chain.result c.word.result c.args.marks.now c.judge_chain.new.marks
    (sym (c.in-Some.ensures.some w fs survey)) (c.word.ensures ∙ ap (λ b. word b EXTENSION) (c.in-Some.ensures.block w fs survey)) unnamed
    (c.judge_chain.ensures.right w fs survey fresh) (c.judge_chain.ensures.wrong w fs survey fresh)

pub returns-in-None-clause-told : goal.returns-in-None-clause-told
returns-in-None-clause-told c = λ w fs survey fresh unnamed.
    judged_none c.args.survey.now.image w c.args.d c.args.marks.now.entries.items (sym (c.in-None.ensures.some w fs survey))
