use Rattle.std.proofs.{Common.arith, lemmas.Grind.common_steps}
use Rattle.adf_memory.proofs.Readings.{node_here}
use Rattle.adf_memory.proofs.reading.read_node.Goals as goal

pub returns-clause-bytes : goal.returns-clause-bytes
returns-clause-bytes c = grind (arith, common_steps, node_here)
