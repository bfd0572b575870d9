use Rattle.std.proofs.{Common.arith, lemmas.Grind.common_steps}
use Rattle.adf_findings.proofs.GrownPlaces.{new_owners}
use Rattle.adf_findings.proofs.walk_owners.WalkOwners.new.Goals as goal

pub returns-clause-owners : goal.returns-clause-owners
returns-clause-owners c = grind (arith, common_steps, new_owners)
