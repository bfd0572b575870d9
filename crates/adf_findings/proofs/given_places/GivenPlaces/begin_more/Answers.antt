use Rattle.std.proofs.{Common.arith, lemmas.List.take_all, lemmas.Grind.common_steps}
use Rattle.adf_findings.proofs.GrownPlaces.{begun_grown}
use Rattle.adf_findings.proofs.given_places.GivenPlaces.begin_more.Goals as goal

pub returns-clause-grown : goal.returns-clause-grown
returns-clause-grown c = grind (arith, common_steps, take_all, begun_grown)
