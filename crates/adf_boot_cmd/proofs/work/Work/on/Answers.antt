use Rattle.std.proofs.Common.{ap, ◌∙◌}
use Rattle.adf_boot_cmd.specs.{Answers.BootAnswer, Answers.told_status, Work.order_of}
use Rattle.adf_runs.proofs.Endings.{does_weaker}
use Rattle.adf_boot_cmd.proofs.Replies.{counted, told_answer, work_writes, writes_answer}
use Rattle.adf_boot_cmd.proofs.work.Work.on.Goals as goal

pub returns-in-Tell : goal.returns-in-Tell
returns-in-Tell g c = does_weaker _ (BootAnswer (order_of c.args.self.now) c.args.bytes.now)
    (λ reply h. told_answer (order_of c.args.self.now) c.args.bytes.now reply (ap order_of c.in-Tell.is)
    (h ∙ ap told_status (counted c.args.bytes.now c.min.result c.min.ensures))) c.tell.ensures

pub returns-in-Copy : goal.returns-in-Copy
returns-in-Copy g c = does_weaker _ (BootAnswer (order_of c.args.self.now) c.args.bytes.now)
    (λ reply h. writes_answer (order_of c.args.self.now) c.args.bytes.now reply (work_writes _ _ c.in-Copy.is (λ e. cc)) h) c.write.ensures

pub returns-in-Install : goal.returns-in-Install
returns-in-Install g c = does_weaker _ (BootAnswer (order_of c.args.self.now) c.args.bytes.now)
    (λ reply h. writes_answer (order_of c.args.self.now) c.args.bytes.now reply (work_writes _ _ c.in-Install.is (λ e. cc)) h) c.write-in-Install.ensures

pub returns-in-Clear : goal.returns-in-Clear
returns-in-Clear g c = does_weaker _ (BootAnswer (order_of c.args.self.now) c.args.bytes.now)
    (λ reply h. writes_answer (order_of c.args.self.now) c.args.bytes.now reply (work_writes _ _ c.in-Clear.is (λ e. cc)) h) c.write-in-Clear.ensures
