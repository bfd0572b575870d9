use Rattle.adf_base.specs.declared.hash.Letters.TheVariants.{Ascii}
use Rattle.adf_volume.proofs.ImageStart.{boot_holds, boot_fails}
use Rattle.adf_volume.proofs.start.boot_cause.Goals as goal

pub returns-in-Ok-clause-none : goal.returns-in-Ok-clause-none
returns-in-Ok-clause-none c = boot_holds Ascii c.args.image.now c.in-Ok.ensures.0

pub returns-in-Err-clause-some : goal.returns-in-Err-clause-some
returns-in-Err-clause-some c = boot_fails Ascii c.args.image.now c.in-Err.cause c.in-Err.ensures
