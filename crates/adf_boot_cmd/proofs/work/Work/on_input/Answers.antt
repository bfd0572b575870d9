use Rattle.std.proofs.Common.{◌∙◌, sym}
use Rattle.adf_runs.proofs.Endings.{read_ends}
use Rattle.adf_boot_cmd.specs.{Answers.BootAnswer, Work.order_of}
use Rattle.adf_boot_blocks.specs.declared.refusal.TheConstants.{MOST_BYTES}
use Rattle.adf_boot_cmd.proofs.Replies.{long_answers}
use Rattle.adf_boot_cmd.proofs.work.Work.on_input.Goals as goal

pub returns-in-Ok-clause-ends : goal.returns-in-Ok-clause-ends
returns-in-Ok-clause-ends g c = record {
  ends = read_ends _ MOST_BYTES (BootAnswer (order_of c.args.self.now)) _ _ _ _
      (λ bytes front long longer. long_answers (order_of c.args.self.now) _ bytes front long longer) c.in-Ok.ensures.all
      (rw c.deref.ensures.value at c.on.ensures.ends);
  read = c.in-Ok.ensures.works ∙ sym c.on.ensures.read;
  written = c.on.ensures.written;
}
