use Rattle.adf_disk_cmd.proofs.Endings.{long_answers}
use Rattle.adf_disk_cmd.specs.{Answers.DiskAnswer, declared.work.TheConstants.MOST_DISK_BYTES}
use Rattle.adf_runs.proofs.Endings.{read_ends}
use Rattle.adf_disk_cmd.proofs.job.JobProgram.on_input.Goals as goal

pub returns-in-Ok-clause-ends : goal.returns-in-Ok-clause-ends
returns-in-Ok-clause-ends g c = λ r serves.
    read_ends _ MOST_DISK_BYTES (DiskAnswer r) _ _ _ _ (λ bytes front long longer. long_answers r _ bytes front) c.in-Ok.ensures.all
    (rw c.deref.ensures.value at (c.on.ensures.ends r serves))
