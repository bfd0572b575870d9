use Rattle.adf_disk_cmd.proofs.Endings.{told_ends}
use Rattle.adf_disk_cmd.proofs.work.Work.on.Goals as goal

pub returns-in-Ok-clause-ends : goal.returns-in-Ok-clause-ends
returns-in-Ok-clause-ends g c = λ r serves. told_ends r c.args.bytes.now _ _ _ _ _ c.in-Ok.ensures (c.on_disk.ensures.ends r serves)
