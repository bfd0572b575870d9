use Rattle.adf_runs.proofs.PendingText.{pending_cleared}
use Rattle.adf_runs.proofs.streams.flush_long.Goals as goal

pub returns-in-Ok-clause-ok : goal.returns-in-Ok-clause-ok
returns-in-Ok-clause-ok g c = pending_cleared _ _ _ _ c.clear.ensures.items (rw c.deref.ensures.value at c.in-Ok.ensures.ok)
