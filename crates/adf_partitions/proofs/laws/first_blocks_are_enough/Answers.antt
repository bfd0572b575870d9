use Rattle.adf_partitions.proofs.FirstBlocks.{first_disk, first_fault}
use Rattle.adf_partitions.proofs.laws.first_blocks_are_enough.Goals as goal

pub returns-clause-disk : goal.returns-clause-disk
returns-clause-disk c = λ bytes n t ps. first_disk bytes n t ps

pub returns-clause-fault : goal.returns-clause-fault
returns-clause-fault c = λ bytes n f. first_fault bytes n f
