use Rattle.adf_build.proofs.LaidOrder.{write_held}
use Rattle.adf_build.proofs.laid.laid_bytes.Goals as goal

pub returns-clause-part : goal.returns-clause-part
returns-clause-part c = write_held
