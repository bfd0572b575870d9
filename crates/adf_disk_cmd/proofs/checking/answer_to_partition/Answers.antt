use Rattle.std.proofs.lemmas.Result.{IfOk-weaker}
use Rattle.adf_disk_cmd.proofs.CheckedVolumes.{told}
use Rattle.adf_disk_cmd.proofs.checking.answer_to_partition.Goals as goal

pub returns-in-None : goal.returns-in-None
returns-in-None c = λ all knows.
    IfOk-weaker c.answer_to_volume.result _ _ (λ v h. told all c.args.partition.now c.in-Ok.place v c.in-Ok.is c.in-None.ensures.checked h)
    (c.answer_to_volume.ensures all knows)
