use Rattle.adf_disk_cmd.proofs.Endings.{volume_is}
use Rattle.adf_disk_cmd.proofs.volumes.volume_at.Goals as goal

pub returns : goal.returns
returns c = volume_is c.args.bytes.now c.args.place _ _ c.begin_of.ensures c.begin_of-2.ensures
