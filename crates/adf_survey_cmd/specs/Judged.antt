-- What is asked of an input. Letters: x what is asked; w the walk of a survey.
use Rattle.std.specs.Prelude.{◌≡◌, ◌*◌, ℕ, Bool, List, [], Option, None, Some, false, take}
use Rattle.adf_volume.specs.Walk.{Walk}
use Rattle.adf_findings.specs.Survey.{IsSurvey}
use Rattle.adf_maps.specs.Maps.{MapValue}
use Rattle.adf_survey_cmd.specs.CommandLine.{InquiryValue, QuestionValue, asked_beside}
use Rattle.adf_survey_cmd.specs.declared.judged.Asked.{Asked}

-- the input is asked of as it is
pub record IsPlain (asked : Option ℕ) (given : Option MapValue) (blanked : Bool) : Type 0 where
  pub blocks : asked ≡ None
  pub map : given ≡ None
  pub blank : blanked ≡ false

-- the same of what is asked
abbrev pub IsAskedPlain : Asked → Type 0
IsAskedPlain x = IsPlain x.blocks x.unread.map.now x.unread.blank

-- nothing is found to be wrong with an image
abbrev pub HasNoFinding : List ℕ → Type 0
HasNoFinding image = (w : Walk) × IsSurvey image w []

-- the first blocks of an input, if so many are stated
abbrev pub front_of : Option ℕ → List ℕ → List ℕ
front_of None input = input
front_of (Some n) input = take (512 * n) input

-- a question of what is asked of
abbrev pub asks : Asked → QuestionValue → InquiryValue
asks x q = asked_beside x.unread.map.now x.unread.blank x.blocks q
