use Rattle.adf_base.proofs.Results.{on_err}
use Rattle.adf_cmd.proofs.volume_listing.list_entry.Goals as goal

pub returns-in_err-flush_long-clause-err : goal.returns-in_err-flush_long-clause-err
returns-in_err-flush_long-clause-err g c = λ date t l dates fits.
    on_err c.from_residual-in_err-flush_long.result (rw (c.in_ok-push_entry.ensures date t l dates fits) at c.in_err-flush_long.ensures.err)

pub returns-clause-ok : goal.returns-clause-ok
returns-clause-ok g c = λ date t l dates fits.
    rw (c.in_ok-push_entry.ensures date t l dates fits) at c.in_ok-flush_long.ensures.ok
