use Rattle.std.proofs.Common.{inr}
use Rattle.adf_volume.specs.declared.types.Types.TheVariants.{WithInternational}
use Rattle.adf_verdicts.proofs.VerdictLaws.{accepted_is, refused_is}
use Rattle.adf_verdicts.proofs.cached.verdict_on_uncached.Goals as goal

pub returns-in-Ok : goal.returns-in-Ok
returns-in-Ok c =
    accepted_is WithInternational c.args.image.now c.cached_acceptance.result (inr (c.requires.takes, c.in-Ok.ensures.fits))
    c.cached_acceptance.ensures.sound c.cached_acceptance.ensures.line

pub returns-in-Err : goal.returns-in-Err
returns-in-Err c =
    refused_is WithInternational c.args.image.now c.in-Err.fault c.refused.result c.refused.ensures.refused c.refused.ensures.told
    c.refused.ensures.line (λ ne. inr (c.requires.takes, c.in-Err.ensures.first ne))
