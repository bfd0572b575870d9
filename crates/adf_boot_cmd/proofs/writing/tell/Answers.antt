use Rattle.std.proofs.Common.{ap, sym, ◌∙◌}
use Rattle.adf_boot_cmd.specs.Answers.{line_status}
use Rattle.adf_runs.proofs.Endings.{does_weaker, silently}
use Rattle.adf_boot_cmd.proofs.Replies.{told_long, told_short}
use Rattle.adf_boot_cmd.proofs.writing.tell.Goals as goal

pub returns-then-image-lt-BOOT_LEN : goal.returns-then-image-lt-BOOT_LEN
returns-then-image-lt-BOOT_LEN g c = does_weaker _ _ (λ reply h. h.0 ∙ sym (told_short c.args.image.now c.if-image-lt-BOOT_LEN.true))
    (silently c.requires c.refuse.ensures.silent)

pub returns-in-Ok : goal.returns-in-Ok
returns-in-Ok g c = does_weaker _ _ (λ reply h. ap (λ r. r.status) h ∙ (ap line_status c.is_bootable.ensures
    ∙ sym (told_long c.args.image.now c.if-image-lt-BOOT_LEN.false))) c.write_line.ensures
