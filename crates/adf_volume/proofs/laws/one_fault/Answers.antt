use Rattle.adf_volume.proofs.OneFault as laws
use Rattle.adf_volume.proofs.TypeLaws as typed
use Rattle.adf_volume.proofs.laws.one_fault.Goals as goal

pub returns-clause-by : goal.returns-clause-by
returns-clause-by c = λ letters image b d e f h k. laws.one_fault image b e d f h k

pub returns-clause-of : goal.returns-clause-of
returns-clause-of c = λ types image b d e f h k. typed.one_fault_of types image b e d f h k
