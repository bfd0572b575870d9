-- What is answered, before it is written. Letters: a an answer; n a status.
use Rattle.std.specs.Prelude.{◌≡◌, ℕ, Bool, List, [], ◌∷◌, Result, Ok, Err, cond}
use Rattle.adf_base.specs.declared.NoMemory.{NoMemory}
use Rattle.adf_runs.specs.Commands.{Reply}
use Rattle.adf_survey_cmd.specs.declared.answer.Answer.{Answer}

-- the status of lines: 0 where there is none
abbrev pub text_status : List ℕ → ℕ
text_status [] = 0
text_status (c ∷ text) = 1

-- the same where something else may be wrong
abbrev pub status_by : (is_clean : Bool) → List ℕ → ℕ
status_by is_clean errors = cond is_clean (text_status errors) 1

-- the status of an answer
abbrev pub answer_status : Answer → ℕ
answer_status a = status_by a.is_clean a.errors.items

-- the reply that an answer is
abbrev pub reply_of : Answer → Reply
reply_of a = record { status = answer_status a; output = a.output.items; errors = a.errors.items }

-- a reply is that of an answer, if there was memory for one
abbrev pub IsWrittenOf : Result Answer NoMemory → Reply → Type 0
IsWrittenOf (Ok a) reply = reply ≡ reply_of a
IsWrittenOf (Err e) reply = ⊥
