-- Volumes of types 0 to 3: a survey of those of international letters has one finding more, that of their type.
use Rattle.std.specs.Prelude.{ℕ, Bool, true, false, List, [], ◌∷◌, Option, Some, None, cond}
use Rattle.adf_blocks.specs.{declared.cause.Cause.Cause, declared.cause.Cause.TheVariants.International, Forms.first_cause}
use Rattle.adf_volume.specs.Start.{start_form}
use Rattle.adf_findings.specs.Survey.{FindingValue, finding}
use Rattle.adf_volume.specs.declared.types.Types.{Types, TheVariants.Plain, TheVariants.WithInternational}

-- whether a boot block with this cause is that of international letters
abbrev pub is_international : Cause → Bool
is_international International = true
is_international _ = false

-- of the cause of a boot block, the finding if it is that of international letters
abbrev pub passed_of : Option Cause → List FindingValue
passed_of None = []
passed_of (Some c) = cond (is_international c) (finding None 0 c ∷ []) []

-- the findings of an image that are no fault where these types are accepted: one of types 2 and 3, that of its boot block
abbrev pub passed : Types → List ℕ → List FindingValue
passed Plain image = []
passed WithInternational image = passed_of (first_cause (start_form image))
