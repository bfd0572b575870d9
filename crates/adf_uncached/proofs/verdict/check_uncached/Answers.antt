use Rattle.adf_uncached.proofs.FaultSteps.{first_of, fits_of}
use Rattle.adf_uncached.proofs.verdict.check_uncached.Goals as goal

pub returns-in-Some-clause-first : goal.returns-in-Some-clause-first
returns-in-Some-clause-first c = rw c.in-Some.is (rw c.deref.ensures.value at c.first_fault.ensures)

pub returns-in-None-clause-fits : goal.returns-in-None-clause-fits
returns-in-None-clause-fits c = fits_of c.args.uncached.now.fault c.check_types.result c.in-None.is c.check_types.ensures.fits

pub returns-in-None-clause-first : goal.returns-in-None-clause-first
returns-in-None-clause-first c =
    first_of c.args.uncached.now.image.items c.args.uncached.now.fault c.check_types.result c.in-None.is
    (rw c.deref-in-None.ensures.value at c.check_types.ensures.first)
