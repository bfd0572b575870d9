use Rattle.std.specs.Prelude.{Some}
use Rattle.std.proofs.Common.{◌∙◌, refl, sym}
use Rattle.adf_uncached.proofs.FaultSteps.{bit_no_memory, cache_told, caches_told, fault_told}
use Rattle.adf_uncached.proofs.verdict.first_fault.Goals as goal

pub returns-then-is_of_bit : goal.returns-then-is_of_bit
returns-then-is_of_bit c = λ e.
    let bit = sym c.is_of_bit.ensures ∙ c.if-is_of_bit.true in
    cache_told c.args.image.now (Some c.args.of_caches) c.in-Some.fault.block c.in-Some.fault.cause c.args.of_caches
    (c.in-Some.ensures.first (bit_no_memory c.in-Some.fault.cause bit)) bit refl

pub returns-else-is_of_bit : goal.returns-else-is_of_bit
returns-else-is_of_bit c = λ some.
    fault_told c.args.image.now (Some c.args.of_caches) c.in-Some.fault.block c.in-Some.fault.cause (c.in-Some.ensures.first some)
    (sym c.is_of_bit.ensures ∙ c.if-is_of_bit.false)

pub returns-in-None : goal.returns-in-None
returns-in-None c = λ some.
    let fits = c.in-None.ensures.fits in
    caches_told c.args.image.now (Some c.args.of_caches) fits.0 fits.1 c.args.of_caches fits.2 refl
