use Rattle.std.proofs.Common.{rules, ap, Err}
use Rattle.adf_cmd.specs.Answers.{HasBadPath}
use Rattle.adf_words.specs.CommandLine.{request_value}
use Rattle.adf_runs.proofs.WorkFaults.{no_path}
use Rattle.adf_cmd.proofs.work.work_for.Goals as goal

pub returns-in_err-read_path-in-Cat-clause-fault : goal.returns-in_err-read_path-in-Cat-clause-fault
returns-in_err-read_path-in-Cat-clause-fault c =
    no_path c.from_residual.result c.in_err-read_path-in-Cat.field-0.0 (HasBadPath (request_value c.args.request)) c.from_residual.ensures.1
    (λ bad. (c.in-Cat.path.now, search rules, rw c.as_bytes.ensures.value at (c.in_err-read_path-in-Cat.ensures.bad_text.0 (ap Err bad))))
