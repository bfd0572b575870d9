use Rattle.std.proofs.Common.{◌++◌, ap, drop, sym, ◌∙◌}
use Rattle.std.proofs.lemmas.List.{take_rest}
use Rattle.adf_boot_blocks.specs.declared.boot.TheConstants.{BOOT_LEN}
use Rattle.adf_runs.specs.Commands.{on_output}
use Rattle.adf_boot_cmd.specs.Answers.{Writes, order_refusal}
use Rattle.adf_boot_cmd.specs.Work.{order_of}
use Rattle.adf_runs.proofs.Endings.{does_weaker, silently}
use Rattle.adf_boot_cmd.proofs.Replies.{is_written, refused}
use Rattle.adf_boot_cmd.proofs.work.Work.write.Goals as goal

pub returns-in-Some : goal.returns-in-Some
returns-in-Some g c =
    does_weaker _ (Writes (order_refusal (order_of c.args.self.now) c.args.image.now) (order_of c.args.self.now) c.args.image.now)
    (λ reply h. refused (order_of c.args.self.now) c.args.image.now c.in-Some.refusal reply (sym c.refusal.ensures ∙ c.in-Some.is) h)
    (silently c.requires c.refuse.ensures.silent)

pub returns-in-None : goal.returns-in-None
returns-in-None g c =
    does_weaker _ (Writes (order_refusal (order_of c.args.self.now) c.args.image.now) (order_of c.args.self.now) c.args.image.now)
    (λ reply h. is_written (order_of c.args.self.now) c.args.image.now reply (sym c.refusal.ensures ∙ c.in-None.is)
    (h ∙ ap (on_output 0) (ap (λ b. c.changed-boot.result ++ b) (take_rest c.args.image.now BOOT_LEN) ∙ ap (λ b. b ++ drop BOOT_LEN c.args.image.now) c.changed-boot.ensures)))
    c.write_parts.ensures
