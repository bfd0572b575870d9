use Rattle.std.proofs.Common.{◌≡◌, ◌∙◌, ap, arith, below_more, false, subst, sym, true}
use Rattle.std.proofs.lemmas.Grind.{common_steps}
use Rattle.adf_volume.specs.Walk.Role.{Page}
use Rattle.adf_findings.specs.SurveyResult.{IsOfSurvey, block_at}
use Rattle.adf_findings.proofs.{BitSteps.has_page, FoundPages.found_at, FoundPages.page_low, Keeping.tells_each, Openings.page_begun}
use Rattle.adf_findings.proofs.survey_result.Survey.is_page.Goals as goal

pub returns-in_default : goal.returns-in_default
returns-in_default c = grind (arith, common_steps, page_begun)

pub returns-then-is_at : goal.returns-then-is_at
returns-then-is_at c = grind (arith, common_steps, tells_each, has_page)

pub loop-i-preserved : goal.loop-i-preserved
loop-i-preserved c = record {
  none = λ w fs h.
      let t = tells_each c.args.self.now (subst IsOfSurvey c.self.view_is c.self.invariant) w fs h in
      let i = c.loop-i.i in
      let pages = ap (λ v. block_at v.pages i) c.self.view_is ∙ t.page i in
      below_more _ _ (c.loop-i.invariant.none w fs h)
      (λ has.
      let yes = c.is_at.ensures.1 (c.page_at.ensures ∙ pages ∙ found_at c.args.self.now.image w fs h (Page i) c.args.b has) in
      let clash : true ≡ false = sym yes ∙ c.if-is_at.false in cc);
}

pub returns : goal.returns
returns c = grind (arith, common_steps, page_low)
