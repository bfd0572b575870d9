use Rattle.std.proofs.Common.{◌≡◌, None, map}
use Rattle.adf_survey_cmd.specs.MapWords.{told_by_words}
use Rattle.adf_survey_cmd.proofs.map_words.map_word.Given as goal

abbrev pub invariant-loop-i : goal.invariant-loop-i
invariant-loop-i l = told_by_words (map (λ w. w.now) l.words) l.i ≡ None
