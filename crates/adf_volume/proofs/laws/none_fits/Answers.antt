use Rattle.adf_volume.proofs.NoneFits as laws
use Rattle.adf_volume.proofs.TypeLaws as typed
use Rattle.adf_volume.proofs.laws.none_fits.Goals as goal

pub returns-clause-by : goal.returns-clause-by
returns-clause-by c = λ letters image b f fault t l fit. laws.none_fits image b f t l fault fit

pub returns-clause-of : goal.returns-clause-of
returns-clause-of c = λ types image b f fault t l fit. typed.none_fits_of types image b f t l fault fit
