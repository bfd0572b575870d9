use Rattle.adf_cmd.proofs.checking.answer_to_image.Goals as goal

pub returns-in-Err : goal.returns-in-Err
returns-in-Err c = c.refusal.ensures c.args.image.now (rw c.in-Err.is at c.in_ok-volume.ensures.first)
