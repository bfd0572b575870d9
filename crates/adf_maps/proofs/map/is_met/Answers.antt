use Rattle.std.proofs.Common.{arith}
use Rattle.std.proofs.{lemmas.Grind.common_steps}
use Rattle.adf_maps.proofs.HoleLaws.{none_met, one_met}
use Rattle.adf_maps.proofs.map.is_met.Goals as goal

pub returns-in-Some : goal.returns-in-Some
returns-in-Some c = one_met c.args.holes.now c.args.block c.holes_before.result c.requires c.holes_before.ensures c.in-Some.hole.now
    (grind (arith, common_steps)) (grind (arith, common_steps))

pub returns-in-None : goal.returns-in-None
returns-in-None c = none_met c.args.holes.now c.args.block c.holes_before.result c.requires c.holes_before.ensures (grind (arith, common_steps))
