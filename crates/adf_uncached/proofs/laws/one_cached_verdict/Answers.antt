use Rattle.adf_uncached.proofs.OneVerdict.{none_cached_fits, one_cached_fault, one_cached_fit, some_verdict}
use Rattle.adf_uncached.proofs.laws.one_cached_verdict.Goals as goal

pub returns-clause-fit : goal.returns-clause-fit
returns-clause-fit c = one_cached_fit

pub returns-clause-fault : goal.returns-clause-fault
returns-clause-fault c = one_cached_fault

pub returns-clause-none : goal.returns-clause-none
returns-clause-none c = none_cached_fits

pub returns-clause-some : goal.returns-clause-some
returns-clause-some c = some_verdict
