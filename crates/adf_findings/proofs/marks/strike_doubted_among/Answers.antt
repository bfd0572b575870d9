use Rattle.std.specs.Prelude.{not, ◌&&◌}
use Rattle.std.proofs.Common.{add-one, sym, ap, ◌∙◌, arith}
use Rattle.std.proofs.lemmas.Grind.{common_steps}
use Rattle.adf_findings.specs.Marks.{doubted, is_doubted, is_node}
use Rattle.adf_findings.proofs.Doubts.{both, same_doubted}
use Rattle.adf_findings.proofs.marks.strike_doubted_among.Goals as goal

pub returns-then-are_sure : goal.returns-then-are_sure
returns-then-are_sure c = λ m t e.
    let sure = c.are_sure.ensures c.if-are_sure.true in
    e ∙ ap (λ p. t && not p) (sym (same_doubted c.args.image.now c.args.found.now m c.args.first c.args.end c.requires.order sure))

pub loop-b-init : goal.loop-b-init
loop-b-init c = λ m t e. e

pub loop-b-preserved : goal.loop-b-preserved
loop-b-preserved c = λ m t e.
    let image = c.args.image.now in
    let f = c.args.found.now in
    let b = c.loop-b.b in
    rw add-one (c.strike_doubted_at.ensures m ∙ ((λ i. c.loop-b.invariant m t e i && not (is_node (doubted image f b) m))
    ∙ both t (is_doubted image f b m) (is_node (doubted image f b) m)))

pub returns : goal.returns
returns c = grind (arith, common_steps)
