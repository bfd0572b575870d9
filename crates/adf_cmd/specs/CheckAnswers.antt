-- The answer of `check` to an image.
use Rattle.std.specs.Prelude.{List, ℕ, if◌then◌else◌, string_bytes}
use Rattle.adf_words.specs.CommandLine.{check}
use Rattle.adf_runs.specs.Commands.{on_output}
use Rattle.adf_cmd.specs.{Answers.Answer, declared.checking.CheckAnswer.CheckAnswer}

-- the answer to an image: at status 0 where it is sound, at status 1 where it is refused
abbrev pub IsCheckAnswer : List ℕ → CheckAnswer → Type 0
IsCheckAnswer image a = Answer check image (on_output (if a.sound then 0 else 1) (string_bytes a.line))
