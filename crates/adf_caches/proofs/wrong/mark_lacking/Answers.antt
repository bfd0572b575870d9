use Rattle.std.specs.Prelude.{◌&&◌, not}
use Rattle.std.proofs.Common.{◌∙◌, ◌+◌, ap, arith, sym}
use Rattle.adf_findings.specs.Members.{has_mark}
use Rattle.adf_caches.specs.Caches.{is_found_directory}
use Rattle.adf_caches.proofs.Wrongness.{lacks_more, lacks_one}
use Rattle.adf_caches.proofs.wrong.mark_lacking.Goals as goal

pub loop-i-preserved : goal.loop-i-preserved
loop-i-preserved c = λ w fs survey.
    let image = c.args.survey.now.image in
    let named = c.args.named.now.items in
    let n = c.loop-i.i + 1 in
    let now = c.loop-i.wrong.items in
    let new = c.mark_if-in-loop-i.new.marks.items in
    let parent = sym (c.directory_of.ensures w fs survey) ∙ sym c.mark_if.view_is in
    lacks_more image w named 1 n c.args.wrong.now.items now new (omega arith) (c.loop-i.invariant w fs survey)
    (lacks_one image w named n c.mark_if.inside.0 c.lacks_mark-lacks.result now new parent
    (c.lacks_mark-lacks.ensures w fs survey ∙ ap (λ d. not (has_mark named n) && is_found_directory image w d) parent)
    c.mark_if-in-loop-i.ensures)
