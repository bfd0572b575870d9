use Rattle.std.proofs.Common.{◌≡◌, ◌∙◌, List, ℕ, None, Some, ap, arith, length, map, sym}
use Rattle.std.proofs.lemmas.List.{length-map}
use Rattle.std.specs.Prelude.{unwrap_or}
use Rattle.adf_survey_cmd.specs.MapWords.{told_by_words}
use Rattle.adf_survey_cmd.proofs.MapWords.{one_told}
use Rattle.adf_survey_cmd.proofs.map_words.map_word.Goals as goal

pub returns-in-Some-clause-word : goal.returns-in-Some-clause-word
returns-in-Some-clause-word c =
    let ws : List (List ℕ) = map (λ w. w.now) c.args.words.now in
    let many : length ws ≡ length c.args.words.now = length-map c.args.words.now (λ w. w.now) in
    let told : told_by_words ws (length ws) ≡ Some c.in-Some.told =
    one_told ws c.loop-i.i (length ws) c.in-Some.told c.loop-i.invariant (sym c.told_by_word.ensures.told ∙ c.in-Some.is)
    (omega (arith, many, c.loop-i-test.true)) in
    sym (ap (λ o. unwrap_or o None) told)
