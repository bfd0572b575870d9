use Rattle.adf_volume.proofs.SampleLost.{lost_first}
use Rattle.adf_volume.proofs.samples.lost_block_is_first_fault.Goals as goal

pub returns : goal.returns
returns c = lost_first
