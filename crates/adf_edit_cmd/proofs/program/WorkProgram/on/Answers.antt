use Rattle.adf_edit_cmd.proofs.AnswerLaws.{counted, part_ends}
use Rattle.adf_edit_cmd.proofs.program.WorkProgram.on.Goals as goal

pub returns-clause-ends : goal.returns-clause-ends
returns-clause-ends g c = λ r serves.
    part_ends c.args.bytes.now _ _ _ _ (counted c.args.bytes.now c.min.result c.min.ensures) c.edit_input.ensures.ends
