use Rattle.adf_partitions.proofs.OneAnswer as laws
use Rattle.adf_partitions.proofs.laws.one_disk.Goals as goal

pub returns-clause-disk : goal.returns-clause-disk
returns-clause-disk c = λ bytes n t u ps qs d e. laws.one_disk bytes n t u ps qs d e
