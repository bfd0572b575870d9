use Rattle.std.proofs.Common.{arith}
use Rattle.adf_check.proofs.FilePieces.{no_pieces}
use Rattle.adf_check.proofs.checked.Checked.read.Goals as goal

pub returns-in_err-joined-in-Some-clause-empty : goal.returns-in_err-joined-in-Some-clause-empty
returns-in_err-joined-in-Some-clause-empty c = search (arith, no_pieces)
