use Rattle.std.proofs.{Common.arith, lemmas.Grind.common_steps, lemmas.List.take_rest}
use Rattle.adf_memory.proofs.reading.read_file.Goals as goal

pub returns : goal.returns
returns c = grind (arith, common_steps, take_rest)
