use Rattle.adf_partitions.proofs.VolumesApart.{volumes_lie_apart}
use Rattle.adf_partitions.proofs.laws.volumes_lie_apart.Goals as goal

pub returns-clause-apart : goal.returns-clause-apart
returns-clause-apart c = λ bytes n t ps d. volumes_lie_apart bytes n t ps d
