use Rattle.std.proofs.{lemmas.Grind.elements, Common.arith}
use Rattle.adf_partitions.proofs.disk.Disk.numbered.Goals as goal

pub returns : goal.returns
returns c = grind (arith, elements)
