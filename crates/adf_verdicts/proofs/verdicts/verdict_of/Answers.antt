use Rattle.std.proofs.Common.{◌∙◌, inl, subst, sym}
use Rattle.adf_verdicts.proofs.VerdictLaws.{accepted_is, cached_is, refused_is}
use Rattle.adf_verdicts.proofs.verdicts.verdict_of.Goals as goal

pub returns-then-takes_caches : goal.returns-then-takes_caches
returns-then-takes_caches c =
    cached_is c.args.types c.args.image.now c.verdict_on_cached.result (sym c.takes_caches.ensures ∙ c.if-takes_caches.true) c.verdict_on_cached.ensures

pub returns-in-Ok : goal.returns-in-Ok
returns-in-Ok c =
    accepted_is c.args.types c.args.image.now c.accepted.result (inl (rw c.in-Ok.ensures.image at c.in-Ok.ensures.fits)) c.accepted.ensures.sound
    c.accepted.ensures.line

pub returns-in-Err : goal.returns-in-Err
returns-in-Err c =
    refused_is c.args.types c.args.image.now c.in-Err.fault c.refused.result c.refused.ensures.refused c.refused.ensures.told
    c.refused.ensures.line (λ ne. inl (sym c.takes_caches.ensures ∙ c.if-takes_caches.false, c.in-Err.ensures.first ne))
