use Rattle.std.proofs.Common.{◌≡◌, ◌∙◌, ℕ, List, [], All, get_or, inr, refl, rules, subst, true}
use Rattle.std.proofs.lemmas.List.{get_or_default}
use Rattle.adf_merge_cmd.specs.Answers.{AreAlike, is_alike}
use Rattle.adf_runs.proofs.PendingText.{appends_nil}
use Rattle.adf_merge_cmd.proofs.Readings.{all_sized}
use Rattle.adf_merge_cmd.proofs.merging.answer.Goals as goal

pub answer_sized-requires-clause-sized : goal.answer_sized-requires-clause-sized
answer_sized-requires-clause-sized g c =
    let rs : List (List ℕ) = c.args.readings.now in
    let same : c.bytes.result.now ≡ get_or rs 0 [] = c.bytes.ensures ∙ (c.index-readings-0.is ∙ get_or_default rs 0 c.index-readings-0.result [] c.requires.some) in
    all_sized rs (subst (λ (f : List ℕ). All (λ r. is_alike f r ≡ true) rs) same (c.in-Ok-None.ensures.taken (search rules)))

pub returns-in-Ok-Some : goal.returns-in-Ok-Some
returns-in-Ok-Some g c =
    let rs : List (List ℕ) = c.args.readings.now in
    let same : c.bytes.result.now ≡ get_or rs 0 [] = c.bytes.ensures ∙ (c.index-readings-0.is ∙ get_or_default rs 0 c.index-readings-0.result [] c.requires.some) in
    let others : ¬ AreAlike rs = subst (λ (f : List ℕ). ¬ All (λ r. is_alike f r ≡ true) rs) same (c.in-Ok-Some.ensures.refused (search rules)) in
    record { ends = ([], inr (others, refl, refl), appends_nil _); read = refl; written = c.requires.works }
