use Rattle.std.proofs.Common.{inr, refl}
use Rattle.adf_shelf_cmd.proofs.runner.run_names.Goals as goal

pub returns-in-Err-clause-ends : goal.returns-in-Err-clause-ends
returns-in-Err-clause-ends g c = inr (c.in-Err.stop, refl, c.in-Err.ensures.unread, c.in-Err.ensures.failed, c.in-Err.ensures.part)
