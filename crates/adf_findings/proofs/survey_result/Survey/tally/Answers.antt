use Rattle.std.proofs.Common.{◌≤◌, ◌+◌, ap, sym, subst, ◌∙◌, arith}
use Rattle.adf_findings.specs.{declared.own_kind.Tally.Tally, OwnKind.tallied, SurveyResult.IsOfSurvey}
use Rattle.adf_findings.proofs.{Keeping.tells_each, OwnKinds.few_tallied, OwnKinds.more_tallied, OwnKinds.tally_none}
use Rattle.adf_findings.proofs.survey_result.Survey.tally.Goals as goal

pub loop-b-init : goal.loop-b-init
loop-b-init c = record { few = omega arith; so_far = λ w fs h. sym (tally_none c.args.image.now w) }

pub loop-b-preserved : goal.loop-b-preserved
loop-b-preserved c = record {
  few = subst (λ (t : Tally). t.says + t.others ≤ c.loop-b.b + 1) (sym c.with-tally.ensures)
      (few_tallied c.loop-b.tally c.said_at.result c.loop-b.b c.loop-b.invariant.few);
  so_far = λ w fs h.
      let t = tells_each c.args.self.now (subst IsOfSurvey c.self.view_is c.self.invariant) w fs h in
      more_tallied t c.args.image.now c.loop-b.b c.loop-b.tally c.with-tally.result (c.loop-b.invariant.so_far w fs h)
      (c.with-tally.ensures ∙ ap (tallied c.loop-b.tally) c.said_at.ensures);
}
