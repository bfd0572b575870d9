use Rattle.adf_findings.proofs.FitsOrFault as laws
use Rattle.adf_findings.proofs.laws.fits_or_fault.Goals as goal

pub returns-clause-plain : goal.returns-clause-plain
returns-clause-plain c = λ image. laws.fits_or_fault image

pub returns-clause-types : goal.returns-clause-types
returns-clause-types c = λ types image. laws.fits_or_fault_of types image

pub returns-clause-letters : goal.returns-clause-letters
returns-clause-letters c = λ types image. laws.fits_or_fault_by types image
