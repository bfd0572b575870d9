use Rattle.std.proofs.Common.{ap, ◌∙◌, arith}
use Rattle.adf_volume.specs.Owners.{owner_at}
use Rattle.adf_findings.specs.WalkOwners.{OwnersValue}
use Rattle.std.proofs.lemmas.Grind.{common_steps}
use Rattle.adf_findings.proofs.GrownPlaces.{free_kept, owners_claimed}
use Rattle.adf_findings.proofs.walk_owners.WalkOwners.claim.Goals as goal

pub returns-clause-owners : goal.returns-clause-owners
returns-clause-owners c = grind (arith, common_steps, owners_claimed)

pub put-requires-clause-below : goal.put-requires-clause-below
put-requires-clause-below c = grind (arith, common_steps)

pub put-requires-clause-free : goal.put-requires-clause-free
put-requires-clause-free c =
    let places = c.self.inside.places in
    free_kept places.starts.items places.exts places.datas c.self.inside.table c.args.b c.self.invariant.1
    (ap (λ (v : OwnersValue). owner_at v.owners c.args.b) c.self.view_is ∙ c.requires.free)

pub invariant_of-self-2 : goal.invariant_of-self-2
invariant_of-self-2 c = grind (arith, common_steps)
