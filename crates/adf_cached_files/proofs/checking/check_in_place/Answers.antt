use Rattle.std.specs.Prelude.{◌/◌}
use Rattle.std.proofs.Common.{◌∙◌, List, ℕ, ap, arith, length, subst, sym}
use Rattle.std.proofs.lemmas.Bool.{false≢true}
use Rattle.adf_uncached.specs.Verdict.{FitsUncached}
use Rattle.adf_volume.specs.{Types.letters_for, declared.fault.Fault.Fault, declared.types.Types.TheVariants.WithInternational}
use Rattle.adf_cached_files.specs.Sameness.{IsSameButBitmap}
use Rattle.adf_cached_files.proofs.KeptImages.{boot_whole, first_told, length_told, pages_told, place_told}
use Rattle.adf_cached_files.proofs.checking.check_in_place.Goals as goal

pub is_same_but_bitmap-requires-clause-size : goal.is_same_but_bitmap-requires-clause-size
is_same_but_bitmap-requires-clause-size c = length_told c.args.image.now c.args.uncached.now c.requires ∙ ap length (sym c.deref.ensures.value)

pub is_same_but_bitmap-requires-clause-boot : goal.is_same_but_bitmap-requires-clause-boot
is_same_but_bitmap-requires-clause-boot c =
    let (t, l, fits) = c.in-Ok.ensures.fits in
    let whole = boot_whole c.in-Ok.volume t l fits.fits.1 in
    omega (arith, whole, ap length c.in-Ok.ensures.image, length_told c.args.image.now c.args.uncached.now c.requires)

pub returns-then-is_same_but_bitmap-clause-fits : goal.returns-then-is_same_but_bitmap-clause-fits
returns-then-is_same_but_bitmap-clause-fits c =
    let image = c.args.image.now in
    let u = c.args.uncached.now in
    let (t, l, fits) = c.in-Ok.ensures.fits in
    let letters = letters_for WithInternational c.in-Ok.volume in
    let same = c.is_same_but_bitmap.ensures.same c.if-is_same_but_bitmap.true letters t l fits.fits.1 in
    let kept = subst (λ (b : List ℕ). FitsUncached u.fault b t l) c.in-Ok.ensures.image fits in
    (t, l, place_told image u c.requires t l kept (subst (λ (b : List ℕ). IsSameButBitmap image b l) c.deref.ensures.value same))

pub returns-else-is_same_but_bitmap-clause-first : goal.returns-else-is_same_but_bitmap-clause-first
returns-else-is_same_but_bitmap-clause-first c = λ _.
    let image = c.args.image.now in
    let u = c.args.uncached.now in
    let (t, l, fits) = c.in-Ok.ensures.fits in
    let letters = letters_for WithInternational c.in-Ok.volume in
    let other = c.is_same_but_bitmap.ensures.other (λ yes. false≢true (sym c.if-is_same_but_bitmap.false ∙ yes)) letters t l fits.fits.1 in
    let kept = subst (λ (b : List ℕ). FitsUncached u.fault b t l) c.in-Ok.ensures.image fits in
    let f = c.fault_at.result in
    let at = ap (λ (f : Fault). f.block) c.fault_at.ensures
    ∙ ap (λ n. n / 2) c.counts.ensures.blocks
    ∙ ap (λ (v : List ℕ). length v / 512 / 2) c.in-Ok.ensures.image
    ∙ ap (λ n. n / 512 / 2) (sym (length_told image u c.requires)) in
    pages_told image u c.requires t l f.block f.cause kept
    (λ same. other (subst (λ (b : List ℕ). IsSameButBitmap image b l) (sym c.deref.ensures.value) same)) at
    (ap (λ (f : Fault). f.cause) c.fault_at.ensures)

pub returns-in-Err-clause-first : goal.returns-in-Err-clause-first
returns-in-Err-clause-first c = λ other.
    first_told c.args.image.now c.args.uncached.now c.requires c.in-Err.fault.block c.in-Err.fault.cause (c.in-Err.ensures.first other)
