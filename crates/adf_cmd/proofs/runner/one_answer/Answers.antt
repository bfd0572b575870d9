use Rattle.adf_cmd.proofs.OneAnswer.{one_answer, one_request}
use Rattle.adf_cmd.proofs.runner.one_answer.Goals as goal

pub returns-clause-request : goal.returns-clause-request
returns-clause-request c = one_request

pub returns-clause-answer : goal.returns-clause-answer
returns-clause-answer c = one_answer
