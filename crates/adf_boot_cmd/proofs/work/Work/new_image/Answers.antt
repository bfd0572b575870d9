use Rattle.std.proofs.Common.{◌++◌, ap, drop, sym, ◌∙◌}
use Rattle.std.proofs.lemmas.List.{take_rest}
use Rattle.adf_boot_blocks.specs.declared.boot.TheConstants.{BOOT_LEN}
use Rattle.adf_runs.specs.Commands.{on_output}
use Rattle.adf_boot_cmd.specs.Work.{order_of}
use Rattle.adf_boot_cmd.proofs.Replies.{is_written}
use Rattle.adf_boot_cmd.proofs.work.Work.new_image.Goals as goal

pub returns-in-Ok-clause-new : goal.returns-in-Ok-clause-new
returns-in-Ok-clause-new c =
    is_written (order_of c.args.self.now) c.args.image.now _ (sym c.refusal.ensures ∙ c.in-None.is)
    (ap (on_output 0) (c.in-Ok.ensures ∙ (ap (λ b. c.changed-boot.result ++ b) (take_rest c.args.image.now BOOT_LEN)
    ∙ ap (λ b. b ++ drop BOOT_LEN c.args.image.now) c.changed-boot.ensures)))
