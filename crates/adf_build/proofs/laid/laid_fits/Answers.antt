use Rattle.adf_build.proofs.LaidFits as laws
use Rattle.adf_build.proofs.laid.laid_fits.Goals as goal

pub returns : goal.returns
returns c = laws.laid_fits
