use Rattle.adf_volume.proofs.BoundedFits as laws
use Rattle.adf_volume.proofs.laws.fits_are_bounded.Goals as goal

pub returns : goal.returns
returns c = λ letters image t l are fits. laws.fits_bounded image t l are fits
