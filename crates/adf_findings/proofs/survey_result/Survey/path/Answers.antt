use Rattle.std.proofs.Common.{map, reverse, ◌∷◌, ◌++◌, ◌<◌, ℕ, List, [], refl, sym, ap, subst, ◌∙◌}
use Rattle.std.proofs.lemmas.List.{map-append}
use Rattle.adf_findings.specs.Lookup.{path_to}
use Rattle.adf_findings.proofs.EntryPaths.{directory_smaller, gathered_all, gathered_more, gathered_some, map_reverse}
use Rattle.adf_findings.proofs.SomeSurvey.{some_survey}
use Rattle.adf_findings.proofs.survey_result.Survey.path.Goals as goal

pub loop-name-smaller : goal.loop-name-smaller
loop-name-smaller c =
    let image : List ℕ = c.args.self.now.image in
    let s = some_survey image in
    let range = (c.in-Some.ensures.some s.0 s.1 s.2).0 refl in
    let up = c.directory_of-node.ensures s.0 s.1 s.2 in
    subst (λ m. m < c.loop-name.node) (sym up) (directory_smaller image s.0 s.1 s.2 c.loop-name.node range.0 range.1)

pub loop-name-preserved : goal.loop-name-preserved
loop-name-preserved c = λ w fs h.
    let image : List ℕ = c.args.self.now.image in
    let items = c.loop-name.path.items in
    let range = (c.in-Some.ensures.some w fs h).0 refl in
    let names = ap (map (λ x. x.now)) c.in_ok-push.ensures.items ∙ map-append (λ x. x.now) items (c.in-Some.name ∷ []) in
    gathered_more image w fs h (path_to image w c.args.n) (map (λ x. x.now) items) c.loop-name.node c.directory_of-node.result c.in-Some.name.now
    range (c.directory_of-node.ensures w fs h) (c.in-Some.ensures.name w fs h) (c.loop-name.invariant w fs h)
    ∙ ap (λ p. path_to image w c.directory_of-node.result ++ reverse p) (sym names)

pub returns-clause-names : goal.returns-clause-names
returns-clause-names c = λ w fs h.
    let image : List ℕ = c.args.self.now.image in
    let items = c.loop-name.path.items in
    ap (map (λ x. x.now)) c.reverse.ensures.items ∙ map_reverse (λ x. x.now) items
    ∙ gathered_all image w fs h (path_to image w c.args.n) (map (λ x. x.now) items) c.loop-name.node
    (λ r. let some = (c.in_default.ensures.some w fs h).1 r in cc) (c.loop-name.invariant w fs h)

pub returns-in_err-push-clause-empty : goal.returns-in_err-push-clause-empty
returns-in_err-push-clause-empty c = λ w fs h nil.
    let image : List ℕ = c.args.self.now.image in
    let range = (c.in-Some.ensures.some w fs h).0 refl in
    absurd (gathered_some image w fs h (path_to image w c.args.n) (map (λ x. x.now) c.loop-name.path.items) c.loop-name.node range
    (c.loop-name.invariant w fs h) nil)
