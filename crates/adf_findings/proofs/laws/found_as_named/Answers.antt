use Rattle.std.proofs.Common.{suc}
use Rattle.adf_findings.proofs.DataFound.{found_named, has_data}
use Rattle.adf_findings.proofs.laws.found_as_named.Goals as goal

pub returns : goal.returns
returns c = λ image w fs n h k b survey file e. (found_named image w fs survey n h file k b (has_data w n (suc k) b e)).0
