use Rattle.adf_edit_cmd.proofs.AnswerLaws.{written}
use Rattle.adf_runs.proofs.Endings.{silently}
use Rattle.adf_edit_cmd.proofs.program.edit_input.Goals as goal

pub returns-in-Ok : goal.returns-in-Ok
returns-in-Ok g c = written c.args.input.now c.in-Ok.image.items c.in-Ok.ensures (rw c.deref.ensures.value at c.write_image.ensures)

pub returns-in-Err : goal.returns-in-Err
returns-in-Err g c = silently c.requires (c.refuse.ensures c.args.input.now)
