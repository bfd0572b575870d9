use Rattle.std.proofs.Common.{slice_index, ℕ, List, refl, sym, ap, subst, ◌∙◌, arith}
use Rattle.std.proofs.lemmas.Grind.{common_steps}
use Rattle.adf_findings.specs.{Files.FileValue, Start.unread_findings, Survey.UnreadTells, SurveyResult.IsOfSurvey}
use Rattle.adf_findings.proofs.{Openings.entry_begun, SoundFiles.file_is, SoundFiles.has_its_blocks, SoundFiles.type_is}
use Rattle.adf_findings.proofs.survey_result.Survey.file_by.Goals as goal

abbrev blocks_of : FileValue → List ℕ
blocks_of f = f.blocks

pub returns-in_default-clause-some : goal.returns-in_default-clause-some
returns-in_default-clause-some c = λ w fs h.
    let none = subst (λ v. UnreadTells v.image (unread_findings c.in_default.field-0)) c.self.view_is c.in_default.ensures.unread in
    ((λ e. cc), (λ y. absurd (entry_begun h y.0.header none)))

pub at-requires : goal.at-requires
at-requires c =
    let kept = subst IsOfSurvey c.self.view_is c.self.invariant in
    let image = c.in-Ok.ensures.image ∙ ap (λ v. v.image) c.self.view_is in
    let head = c.number_at-head.ensures ∙ (λ i. slice_index (c.self.view_is i).nodes (c.n.view_is i)) in
    let sound = (c.is_clear.ensures kept.0 kept.1 kept.2.survey).0 c.if-not-is_clear.false in
    has_its_blocks c.args.self.now kept kept.0 kept.1 kept.2.survey c.args.n image head c.word.ensures c.args.grave sound c.if-word.false

pub returns-clause-some : goal.returns-clause-some
returns-clause-some c = λ w fs h.
    let kept = subst IsOfSurvey c.self.view_is c.self.invariant in
    let image = c.in-Ok.ensures.image ∙ ap (λ v. v.image) c.self.view_is in
    let head = c.number_at-head.ensures ∙ (λ i. slice_index (c.self.view_is i).nodes (c.n.view_is i)) in
    let sound = (c.is_clear.ensures w fs h).0 c.if-not-is_clear.false in
    let type = type_is c.args.self.now kept w fs h c.args.n image head c.word.ensures in
    ((λ e. (sound, sym type ∙ c.if-word.false)), (λ y. refl))

pub returns-in_err-at-clause-empty : goal.returns-in_err-at-clause-empty
returns-in_err-at-clause-empty c = grind (arith, common_steps, file_is, blocks_of)
