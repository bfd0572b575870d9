use Rattle.adf_partitions.proofs.SeparatePartitions.{are_separate}
use Rattle.adf_partitions.proofs.laws.readable_are_separate.Goals as goal

pub returns : goal.returns
returns c = λ bytes n ps h. are_separate bytes n ps h
