use Rattle.std.proofs.{Common.arith, lemmas.Grind.common_steps}
use Rattle.std.proofs.lemmas.List.{length-map, length-take-le, map-append, take_all, take_more}
use Rattle.adf_memory.proofs.Filled.{filled_none, take_zero}
use Rattle.adf_memory.proofs.disk_tables.put_partitions.Goals as goal

pub loop-i-init : goal.loop-i-init
loop-i-init c = grind (arith, common_steps, take_zero, filled_none)

pub loop-i-preserved : goal.loop-i-preserved
loop-i-preserved c = grind (arith, common_steps, length-map, length-take-le, take_more, map-append)

pub returns : goal.returns
returns c = grind (arith, common_steps, take_all)
