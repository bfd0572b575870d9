use Rattle.std.proofs.Common.{◌∙◌, sym}
use Rattle.adf_uncached.proofs.SurveySteps.{chains_unmarked, first_of_marks, right_result, wrong_first, wrong_result}
use Rattle.adf_uncached.proofs.images.uncached_of.Goals as goal

pub returns-in-Some : goal.returns-in-Some
returns-in-Some c = λ w fs survey.
    let image = c.args.survey.now.image in
    let marks = c.in_ok-wrong.wrong.items in
    let told = sym (first_of_marks image w marks (c.in_ok-wrong.ensures.size w fs survey) (c.in_ok-wrong.ensures.wrong w fs survey)) in
    let first = told ∙ (sym c.first_marked.ensures ∙ c.in-Some.is) in
    wrong_result image w c.with_wrong_cache.result c.in-Some.d c.directory_header.result first
    (c.directory_header.ensures w fs survey (wrong_first image w c.in-Some.d first)) (rw c.image.ensures at c.with_wrong_cache.ensures)

pub returns : goal.returns
returns c = λ w fs survey.
    let image = c.args.survey.now.image in
    let marks = c.in_ok-wrong.wrong.items in
    let size = c.in_ok-wrong.ensures.size w fs survey in
    let wrong = c.in_ok-wrong.ensures.wrong w fs survey in
    let first = sym (first_of_marks image w marks size wrong) ∙ (sym c.first_marked.ensures ∙ c.in-None.is) in
    right_result image w c.with_right_caches.result first
    (c.with_right_caches.ensures w fs survey (chains_unmarked image w marks size wrong c.requires first))
