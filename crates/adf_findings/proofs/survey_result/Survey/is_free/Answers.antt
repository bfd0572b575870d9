use Rattle.std.proofs.Common.{ap, subst, ◌∙◌, arith}
use Rattle.adf_findings.specs.SurveyResult.{IsOfSurvey, block_at}
use Rattle.adf_findings.proofs.{BitsStated.bit_stated, Keeping.tells_each}
use Rattle.adf_findings.proofs.survey_result.Survey.is_free.Goals as goal

pub returns-clause-some : goal.returns-clause-some
returns-clause-some c = λ w fs h.
    let t = tells_each c.args.self.now (subst IsOfSurvey c.self.view_is c.self.invariant) w fs h in
    let image = c.in-Ok.ensures.image ∙ ap (λ v. v.image) c.self.view_is in
    let valid = rw image at (c.is_validated.ensures.0 c.if-not-is_validated.false) in
    let bit = rw (c.place_of-page.ensures.page, c.place_of-page.ensures.bit, image) at c.bit_of.ensures in
    (bit_stated c.args.self.now.image w fs h c.self.inside.pages (λ i. ap (λ v. block_at v.pages i) c.self.view_is ∙ t.page i)
    c.args.b (omega (arith, c.if-b-lt2.false)) valid c.bit_of.result bit).0

pub returns-clause-free : goal.returns-clause-free
returns-clause-free c = λ w fs h.
    let t = tells_each c.args.self.now (subst IsOfSurvey c.self.view_is c.self.invariant) w fs h in
    let image = c.in-Ok.ensures.image ∙ ap (λ v. v.image) c.self.view_is in
    let valid = rw image at (c.is_validated.ensures.0 c.if-not-is_validated.false) in
    let bit = rw (c.place_of-page.ensures.page, c.place_of-page.ensures.bit, image) at c.bit_of.ensures in
    (bit_stated c.args.self.now.image w fs h c.self.inside.pages (λ i. ap (λ v. block_at v.pages i) c.self.view_is ∙ t.page i)
    c.args.b (omega (arith, c.if-b-lt2.false)) valid c.bit_of.result bit).1
