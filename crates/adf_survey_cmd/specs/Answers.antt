-- What the command answers to its words and its input.
-- Letters: r an inquiry, q its question; n a status; a an answer; x what is asked.
use Rattle.std.specs.Prelude.{◌≡◌, ◌*◌, ◌+◌, ◌⊎◌, ◌≤◌, ℕ, Bool, false, List, [], Option, take}
use Rattle.adf_blocks.specs.declared.layout.TheConstants.{MOST_BLOCKS}
use Rattle.adf_maps.specs.Maps.{MapValue}
use Rattle.adf_names.specs.PathTexts.{IsPathText}
use Rattle.adf_runs.specs.Commands.{Command, Reply, bad_path}
use Rattle.adf_file_runs.specs.FileRuns.{without_files}
use Rattle.adf_survey_cmd.specs.Answer.{answer_status}
use Rattle.adf_survey_cmd.specs.CommandLine.{AreRefusedBySurvey, AsksSurvey, InquiryValue, QuestionValue, asked_beside, blanks, cat, claims, deleted, report}
use Rattle.adf_survey_cmd.specs.CommandLine.{rescue, survey_file}
use Rattle.adf_survey_cmd.specs.Judged.{HasNoFinding, IsPlain, asks, front_of}
use Rattle.adf_survey_cmd.specs.Rescue.{IsRescue, IsWholeRescue}
use Rattle.adf_survey_cmd.specs.declared.answer.Answer.{Answer}
use Rattle.adf_survey_cmd.specs.declared.judged.Asked.{Asked}
use Rattle.adf_survey_cmd.specs.declared.command_line.TheConstants.{SURVEY_USAGE}
use Rattle.adf_survey_cmd.specs.Work.{question_of}
use Rattle.adf_survey_cmd.specs.declared.task.Task.{Task}

-- at status 0 nothing is found to be wrong with an input that is asked of as it is; without --list nothing is written
pub record IsFindingsReport (list : Bool) (r : InquiryValue) (input : List ℕ) (n : ℕ) (output : List ℕ) : Type 0 where
  pub clean : n ≡ 0 → IsPlain r.blocks r.map r.blank → HasNoFinding input
  pub silent : n ≡ 0 → list ≡ false → output ≡ []

-- what is promised of the status and the output: of `cat` without --damaged that bytes come at status 0 alone; of a rescue what volume is written
abbrev pub PromisesOf : QuestionValue → InquiryValue → (input : List ℕ) → (n : ℕ) → (output : List ℕ) → Type 0
PromisesOf (report list json) r input n output = IsFindingsReport list r input n output
PromisesOf (cat damaged path) r input n output = damaged ≡ false → n ≡ 1 → output ≡ []
PromisesOf (rescue wish) r input n output = IsWholeRescue wish.types input (front_of r.blocks input) output ⊎ IsRescue wish input n output
PromisesOf (deleted file) r input n output = Unit {0}
PromisesOf blanks r input n output = Unit {0}
PromisesOf claims r input n output = Unit {0}

-- the same of a task and its answer
abbrev pub Promises : Task → Asked → Answer → Type 0
Promises task x a = PromisesOf (question_of task) (asks x (question_of task)) x.input.now (answer_status a) a.output.items

-- a text is that of no path
abbrev pub IsNoPathText : List ℕ → Type 0
IsNoPathText path = (names : List (List ℕ)) → ¬ IsPathText path names

-- the answer to a question for the bytes under a path that is not read
abbrev pub RefusesBadPath : QuestionValue → Reply → Type 0
RefusesBadPath (cat damaged path) reply = IsNoPathText path × (reply ≡ bad_path)
RefusesBadPath q reply = ⊥

-- the status is 0 or 1, at 0 errors get no line, and the output is as promised
pub record IsSurveyAnswer (r : InquiryValue) (input : List ℕ) (reply : Reply) : Type 0 where
  pub few : reply.status ≤ 1
  pub silent : reply.status ≡ 0 → reply.errors ≡ []
  pub promised : PromisesOf r.question r input reply.status reply.output

-- the answer to an inquiry of an input
abbrev pub InputAnswer : InquiryValue → List ℕ → Reply → Type 0
InputAnswer r input reply = RefusesBadPath r.question reply ⊎ IsSurveyAnswer r input reply

-- the same of an input that may be longer than the largest image: by its bytes up to one more
abbrev pub SurveyAnswer : InquiryValue → List ℕ → Reply → Type 0
SurveyAnswer r input reply = InputAnswer r (take (512 * MOST_BLOCKS + 1) input) reply

-- a question for the bytes under a path that is not read
abbrev pub HasBadSurveyPath : QuestionValue → Type 0
HasBadSurveyPath q = (damaged : Bool) × (path : List ℕ) × (q ≡ cat damaged path) × IsNoPathText path

-- the words ask for the bytes under a path that is not read
abbrev pub AsksBadSurveyPath : List (List ℕ) → Type 0
AsksBadSurveyPath words =
    (map : Option MapValue) × (blank : Bool) × (blocks : Option ℕ) × (damaged : Bool) × (path : List ℕ)
    × AsksSurvey words (asked_beside map blank blocks (cat damaged path)) × IsNoPathText path

-- the command `adf-survey`
abbrev pub survey_command : Command (List (List ℕ))
survey_command = record {
  Request = InquiryValue;
  asks = AsksSurvey;
  refuses = AreRefusedBySurvey;
  asks_bad_path = AsksBadSurveyPath;
  answer = SurveyAnswer;
  limit = λ r. 512 * MOST_BLOCKS;
  usage = SURVEY_USAGE.now;
}

-- the same where there are no files
abbrev pub survey_without_files : Command (List (List ℕ))
survey_without_files = without_files survey_command survey_file
