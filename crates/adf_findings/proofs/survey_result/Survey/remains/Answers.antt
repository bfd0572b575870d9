use Rattle.std.proofs.Common.{ap, subst, ◌∙◌}
use Rattle.adf_volume.specs.Walk.{node_block}
use Rattle.adf_findings.specs.{Start.unread_findings, Survey.UnreadTells, SurveyResult.IsOfSurvey}
use Rattle.adf_findings.proofs.{DataFound.file_at, DataFound.left_is, Keeping.tells_each, Openings.entry_begun}
use Rattle.adf_findings.proofs.survey_result.Survey.remains.Goals as goal

pub returns-in_default-clause-some : goal.returns-in_default-clause-some
returns-in_default-clause-some c = λ w fs h.
    let none = subst (λ v. UnreadTells v.image (unread_findings c.in_default.field-0)) c.self.view_is c.in_default.ensures.unread in
    ((λ e. cc), (λ y. absurd (entry_begun h y.1.header none)))

pub returns-clause-bytes : goal.returns-clause-bytes
returns-clause-bytes c = λ w fs h.
    let v = c.args.self.now in
    let t = tells_each v (subst IsOfSurvey c.self.view_is c.self.invariant) w fs h in
    let file = (c.is_file.ensures w fs h).0 c.if-not-is_file.false in
    let image = c.in-Ok.ensures.image ∙ ap (λ v. v.image) c.self.view_is in
    c.in_ok-left_of.ensures.bytes
    ∙ (left_is t c.args.n (node_block w c.args.n) (file_at v.image w fs h c.args.n file.0 file.1) c.args.end image (t.node c.args.n)).0

pub returns-clause-gaps : goal.returns-clause-gaps
returns-clause-gaps c = λ w fs h.
    let v = c.args.self.now in
    let t = tells_each v (subst IsOfSurvey c.self.view_is c.self.invariant) w fs h in
    let file = (c.is_file.ensures w fs h).0 c.if-not-is_file.false in
    let image = c.in-Ok.ensures.image ∙ ap (λ v. v.image) c.self.view_is in
    c.in_ok-left_of.ensures.gaps
    ∙ (left_is t c.args.n (node_block w c.args.n) (file_at v.image w fs h c.args.n file.0 file.1) c.args.end image (t.node c.args.n)).1
