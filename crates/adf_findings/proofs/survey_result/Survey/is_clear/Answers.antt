use Rattle.std.proofs.Common.{◌≡◌, sym, subst, ◌∙◌, arith}
use Rattle.adf_volume.specs.Walk.{node_block}
use Rattle.adf_findings.specs.{Members.has_mark, SurveyResult.IsOfSurvey}
use Rattle.adf_findings.proofs.Keeping.{root_no_entry, tells_each}
use Rattle.adf_findings.proofs.survey_result.Survey.is_clear.Goals as goal

pub returns-then-n-eq0 : goal.returns-then-n-eq0
returns-then-n-eq0 c = λ w fs h.
    let zero : c.args.n ≡ 0 = sym c.n.view_is ∙ c.if-n-eq0.true in
    rw zero ((λ y. cc), (λ s. absurd (root_no_entry c.args.self.now.image w fs c.args.grave (node_block w 0) h s)))

pub returns-then-grave : goal.returns-then-grave
returns-then-grave c = λ w fs h.
    let t = tells_each c.args.self.now (subst IsOfSurvey c.self.view_is c.self.invariant) w fs h in
    let m : c.has_mark.result ≡ has_mark c.args.self.now.whole c.args.n =
    c.has_mark.ensures ∙ (λ i. has_mark (c.self.view_is i).whole (c.n.view_is i)) in
    rw (m, c.if-grave.true) (t.whole c.args.n (omega (arith, c.n.view_is, c.if-n-eq0.false)))

pub returns : goal.returns
returns c = λ w fs h.
    let t = tells_each c.args.self.now (subst IsOfSurvey c.self.view_is c.self.invariant) w fs h in
    let m : c.has_mark-2.result ≡ has_mark c.args.self.now.sound c.args.n =
    c.has_mark-2.ensures ∙ (λ i. has_mark (c.self.view_is i).sound (c.n.view_is i)) in
    rw (m, c.if-grave.false) (t.sound c.args.n (omega (arith, c.n.view_is, c.if-n-eq0.false)))
