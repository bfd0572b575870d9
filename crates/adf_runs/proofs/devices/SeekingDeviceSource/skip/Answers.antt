use Rattle.std.proofs.Common.{◌+◌, replicate}
use Rattle.std.proofs.lemmas.List.{length-replicate}
use Rattle.adf_runs.proofs.devices.SeekingDeviceSource.skip.Goals as goal

pub returns-clause-passed : goal.returns-clause-passed
returns-clause-passed g c = let count = c.in_ok-by_seek.by_seek + c.in_ok-by_read.by_read in (replicate count 0, (tt, tt), length-replicate count 0)
