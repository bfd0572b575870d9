use Rattle.std.proofs.{Common.arith, lemmas.Grind.common_steps}
use Rattle.adf_findings.proofs.GrownPlaces.{part_kept}
use Rattle.adf_findings.proofs.walk_owners.WalkOwners.are_parts.Goals as goal

pub returns-then-end-len : goal.returns-then-end-len
returns-then-end-len c = grind (arith, common_steps, part_kept)
