use Rattle.adf_partitions.specs.Searches.AreReadable.{whole}
use Rattle.adf_partitions.proofs.OneAnswer as laws
use Rattle.adf_partitions.proofs.laws.one_reading.Goals as goal

pub returns-clause-one : goal.returns-clause-one
returns-clause-one c = λ bytes n ps qs x y. laws.one_reading bytes n x y

pub returns-clause-whole : goal.returns-clause-whole
returns-clause-whole c = λ bytes n t ps d. whole d
