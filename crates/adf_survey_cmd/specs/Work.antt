-- What is done for words, once they and their path are read.
use Rattle.std.specs.Prelude.{◌≡◌, ℕ, List, []}
use Rattle.adf_names.specs.PathTexts.{IsPathText}
use Rattle.adf_survey_cmd.specs.CommandLine.{InquiryValue, QuestionValue, blanks, cat, claims, deleted, report, rescue}
use Rattle.adf_survey_cmd.specs.declared.work.Work.{Work}
use Rattle.adf_survey_cmd.specs.declared.task.Task.{Task, TheVariants.Blanks, TheVariants.Cat, TheVariants.Claims, TheVariants.Deleted}
use Rattle.adf_survey_cmd.specs.declared.task.Task.TheVariants.{Report, Rescue}

-- the question that a task serves, without its path
abbrev pub question_of : Task → QuestionValue
question_of (Report list json) = report list json
question_of (Cat names damaged) = cat damaged []
question_of (Rescue wish) = rescue wish
question_of (Deleted file) = deleted file
question_of Blanks = blanks
question_of Claims = claims

-- the task is what is asked, with the names of the path
abbrev pub ServesQuestion : Task → QuestionValue → Type 0
ServesQuestion (Cat names damaged) q = (path : List ℕ) × (q ≡ cat damaged path) × IsPathText path names.items
ServesQuestion task q = q ≡ question_of task

-- the work is what is asked for, of as many blocks, if any are named, by a map, if one is given, and of blank blocks or not
pub record Meets (work : Work) (r : InquiryValue) : Type 0 where
  pub blocks : work.blocks ≡ r.blocks
  pub map : work.map ≡ r.map
  pub blank : work.blank ≡ r.blank
  pub serves : ServesQuestion work.task r.question
