use Rattle.std.proofs.Common.{◌∙◌, List, ℕ, subst}
use Rattle.adf_survey_cmd.specs.Judged.{HasNoFinding}
use Rattle.adf_survey_cmd.proofs.reporting.is_clean.Goals as goal

pub returns-then-is_of_input : goal.returns-then-is_of_input
returns-then-is_of_input c = λ yes plain.
    subst (λ (x : List ℕ). HasNoFinding x) (c.requires ∙ c.is_of_input.ensures c.if-is_of_input.true plain) (c.has_no_finding.ensures yes)
