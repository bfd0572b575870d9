use Rattle.adf_boot_blocks.proofs.OtherBoots.{other_fits}
use Rattle.adf_boot_blocks.proofs.laws.boot_is_no_part.Goals as goal

pub returns : goal.returns
returns c image other t l o fit = other_fits image other o t l fit
