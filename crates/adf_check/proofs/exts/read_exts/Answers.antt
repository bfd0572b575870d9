use Rattle.std.proofs.Common.{arith}
use Rattle.adf_check.proofs.ExtSteps.{exts_end}
use Rattle.adf_check.proofs.exts.read_exts.Goals as goal

pub returns-clause-state : goal.returns-clause-state
returns-clause-state c = search (arith, exts_end)
