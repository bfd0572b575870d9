use Rattle.adf_cmd.proofs.images.volume_of.Goals as goal

pub returns-in_ok-refused_line-in-Err-clause-refused : goal.returns-in_ok-refused_line-in-Err-clause-refused
returns-in_ok-refused_line-in-Err-clause-refused c =
    (c.in-Err.fault, rw c.in-Err.is at c.in_ok-volume.ensures.first, c.in_ok-refused_line-in-Err.ensures)
