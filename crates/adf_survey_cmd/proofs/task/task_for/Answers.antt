use Rattle.std.proofs.Common.{rules, ap, Err}
use Rattle.adf_runs.proofs.WorkFaults.{no_path}
use Rattle.adf_survey_cmd.specs.{Answers.HasBadSurveyPath, CommandLine.question_value}
use Rattle.adf_survey_cmd.proofs.task.task_for.Goals as goal

pub returns-in_err-names-in-Cat-clause-fault : goal.returns-in_err-names-in-Cat-clause-fault
returns-in_err-names-in-Cat-clause-fault c =
    no_path c.from_residual.result c.in_err-names-in-Cat.field-0.0 (HasBadSurveyPath (question_value c.args.question)) c.from_residual.ensures.1
    (λ bad. (
      c.in-Cat.damaged,
      c.in-Cat.path.now,
      search rules,
      rw c.as_bytes.ensures.value at (c.in_err-names-in-Cat.ensures.bad_text.0 (ap Err bad)),
    ))
