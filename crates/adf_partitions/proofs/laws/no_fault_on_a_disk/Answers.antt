use Rattle.adf_partitions.proofs.OneAnswer as laws
use Rattle.adf_partitions.proofs.laws.no_fault_on_a_disk.Goals as goal

pub returns-clause-disk : goal.returns-clause-disk
returns-clause-disk c = λ bytes n t ps f h d. laws.no_fault bytes n t ps f h d
