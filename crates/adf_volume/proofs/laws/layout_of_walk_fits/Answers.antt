use Rattle.adf_volume.proofs.WalkFits as laws
use Rattle.adf_volume.proofs.laws.layout_of_walk_fits.Goals as goal

pub returns : goal.returns
returns c = λ letters image w boots root v whole bits. laws.fits image w v whole boots root bits
