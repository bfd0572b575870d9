use Rattle.std.proofs.Common.{◌≡◌, subst, arith}
use Rattle.std.specs.Prelude.{None, is_some, true}
use Rattle.std.proofs.lemmas.Grind.{common_steps}
use Rattle.adf_blocks.specs.Sizes.{blocks}
use Rattle.adf_findings.specs.{OwnKind.said_in, SurveyResult.IsOfSurvey}
use Rattle.adf_findings.proofs.{Keeping.tells_each, OwnKinds.none_found, OwnKinds.some_found, OwnKinds.tally_none}
use Rattle.adf_findings.proofs.survey_result.Survey.has_no_data.Goals as goal

pub loop-b-init : goal.loop-b-init
loop-b-init c = λ w fs h. tally_none c.args.image.now w

pub returns-then-is_some : goal.returns-then-is_some
returns-then-is_some c = λ w fs h.
    let t = tells_each c.args.self.now (subst IsOfSurvey c.self.view_is c.self.invariant) w fs h in
    let some : is_some (said_in c.args.image.now c.args.self.now c.loop-b.b) ≡ true = grind (arith, common_steps) in
    some_found t c.args.image.now c.loop-b.b (blocks c.args.image.now) (omega arith) some

pub loop-b-preserved : goal.loop-b-preserved
loop-b-preserved c = λ w fs h.
    let t = tells_each c.args.self.now (subst IsOfSurvey c.self.view_is c.self.invariant) w fs h in
    let none : said_in c.args.image.now c.args.self.now c.loop-b.b ≡ None = grind (arith, common_steps) in
    none_found t c.args.image.now c.loop-b.b none (c.loop-b.invariant w fs h)
