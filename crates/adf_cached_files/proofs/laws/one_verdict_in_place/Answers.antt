use Rattle.adf_cached_files.proofs.OneInPlace.{none_in_place, one_fault_in_place, one_fit_in_place}
use Rattle.adf_cached_files.proofs.SomeInPlace.{some_in_place}
use Rattle.adf_cached_files.proofs.laws.one_verdict_in_place.Goals as goal

pub returns-clause-fit : goal.returns-clause-fit
returns-clause-fit c = one_fit_in_place

pub returns-clause-fault : goal.returns-clause-fault
returns-clause-fault c = one_fault_in_place

pub returns-clause-none : goal.returns-clause-none
returns-clause-none c = none_in_place

pub returns-clause-some : goal.returns-clause-some
returns-clause-some c = some_in_place
