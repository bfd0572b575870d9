use Rattle.std.proofs.{Common.arith, Common.length-take, Common.length-drop, lemmas.Slice.drop-put_mid, lemmas.Grind.common_steps}
use Rattle.adf_memory.proofs.reading.put_part.Goals as goal

pub returns-clause-behind : goal.returns-clause-behind
returns-clause-behind c = grind (arith, common_steps, drop-put_mid, length-take, length-drop)
