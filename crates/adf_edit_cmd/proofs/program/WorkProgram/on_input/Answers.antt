use Rattle.adf_edit_cmd.proofs.AnswerLaws.{long_answers}
use Rattle.adf_edit_cmd.specs.{Answers.EditAnswer, declared.program.TheConstants.MOST_INPUT_BYTES}
use Rattle.adf_runs.proofs.Endings.{read_ends}
use Rattle.adf_edit_cmd.proofs.program.WorkProgram.on_input.Goals as goal

pub returns-in-Ok-clause-ends : goal.returns-in-Ok-clause-ends
returns-in-Ok-clause-ends g c = λ r serves.
    read_ends _ MOST_INPUT_BYTES EditAnswer _ _ _ _ (λ bytes front long longer. long_answers _ bytes front) c.in-Ok.ensures.all
    (rw c.deref.ensures.value at (c.on.ensures.ends r serves))
