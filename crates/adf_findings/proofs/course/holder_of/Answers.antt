use Rattle.std.proofs.{Common.arith, lemmas.Grind.common_steps}
use Rattle.adf_findings.proofs.{CourseSteps.below_gone, MapPlaces.map_ext_named, MapPlaces.map_ext_on}
use Rattle.adf_findings.proofs.course.holder_of.Goals as goal

pub returns : goal.returns
returns c = grind (arith, common_steps, map_ext_named, map_ext_on, below_gone)
