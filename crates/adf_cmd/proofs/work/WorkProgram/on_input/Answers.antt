use Rattle.adf_cmd.specs.Answers.{Answer, limit_of}
use Rattle.adf_cmd.proofs.LongInputs.{long_answers}
use Rattle.adf_runs.proofs.Endings.{read_ends}
use Rattle.adf_cmd.proofs.work.WorkProgram.on_input.Goals as goal

pub returns-in-Ok-clause-ends : goal.returns-in-Ok-clause-ends
returns-in-Ok-clause-ends g c = λ r serves.
    read_ends _ (limit_of r) (Answer r) _ _ _ _ (λ bytes front. long_answers r _ bytes) (rw (c.limit.ensures.exact r serves) at c.in-Ok.ensures.all)
    (c.on_read.ensures.ends r serves)
