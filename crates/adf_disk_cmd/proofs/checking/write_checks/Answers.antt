use Rattle.std.proofs.Common.{◌∙◌, ap}
use Rattle.adf_disk_cmd.specs.{Answers.ChecksAll, Replies.WritesOutput, Replies.check_status}
use Rattle.adf_runs.proofs.Endings.{ends_weaker}
use Rattle.adf_disk_cmd.proofs.checking.write_checks.Goals as goal

pub returns-in-Ok-clause-ends : goal.returns-in-Ok-clause-ends
returns-in-Ok-clause-ends g c = λ all knows.
    let (sound, are, is) = c.in-Ok.ensures all knows in
    ends_weaker (WritesOutput (check_status c.in-Ok.checks.sound) c.deref.result.now) (ChecksAll all c.args.disk.now.partitions.items c.args.disk.now.fault)
    c.write_text.result _ _ (λ reply h. (sound, are, h.0 ∙ ap check_status is)) c.write_text.ensures.ends
