use Rattle.adf_partitions.proofs.OneAnswer as laws
use Rattle.adf_partitions.proofs.laws.one_disk_fault.Goals as goal

pub returns : goal.returns
returns c = λ bytes n f g h k. laws.one_fault bytes n f g h k
