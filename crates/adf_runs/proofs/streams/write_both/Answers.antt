use Rattle.std.proofs.lemmas.Result.{on_err_weaker}
use Rattle.adf_runs.proofs.PendingText.{part_behind, part_of_more}
use Rattle.adf_runs.proofs.streams.write_both.Goals as goal

pub returns-in-Ok-clause-err : goal.returns-in-Ok-clause-err
returns-in-Ok-clause-err g c =
    on_err_weaker c.write_all-in-Ok.result (part_behind _ _ _ _ _ c.in-Ok.ensures.ok) c.write_all-in-Ok.ensures.err

pub returns-in-Err-clause-err : goal.returns-in-Err-clause-err
returns-in-Err-clause-err g c = part_of_more _ _ _ c.args.second.now c.in-Err.ensures.err
