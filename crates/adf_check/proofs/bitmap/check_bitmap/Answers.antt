use Rattle.std.proofs.Common.{min, arith}
use Rattle.adf_check.proofs.BitmapSteps.{fits_alone}
use Rattle.adf_check.proofs.bitmap.check_bitmap.Goals as goal

pub returns-clause-fits : goal.returns-clause-fits
returns-clause-fits c = grind (arith, min, fits_alone)
