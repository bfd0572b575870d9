use Rattle.adf_volume.proofs.WalkCompleteness.{part_walked}
use Rattle.adf_volume.proofs.laws.completeness.Goals as goal

pub returns : goal.returns
returns c = λ letters image t l w fit walk whole r b h. part_walked image t l fit w walk whole r b h
