use Rattle.std.proofs.{Common.arith, lemmas.Grind.common_steps}
use Rattle.adf_disk_cmd.proofs.NewVolumes.{never_full}
use Rattle.adf_disk_cmd.proofs.new_volumes.new_without_caches.Goals as goal

pub unreachable-requires-in-Err-Full : goal.unreachable-requires-in-Err-Full
unreachable-requires-in-Err-Full c = grind (arith, common_steps, never_full, c.requires.empty, c.in-Err-Full.ensures.fault)
