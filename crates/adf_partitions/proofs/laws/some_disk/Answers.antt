use Rattle.adf_partitions.proofs.SomeDisks as disks
use Rattle.adf_partitions.proofs.laws.some_disk.Goals as goal

pub returns : goal.returns
returns c = λ bytes n. disks.some_disk bytes n
