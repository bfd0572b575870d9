-- One verdict on an image of a volume with directory caches.
-- Letters: bytes those of the image without caches; caches the fault of caches, if there is one; b, d blocks; c, e causes; f a fault; t, u trees,
-- l, m layouts; w the walk of the image's survey.
use Rattle.std.specs.Prelude.{Option, Some, None}
use Rattle.std.proofs.Common.{◌≡◌, ◌⊎◌, ◌∙◌, ℕ, Bool, true, false, List, ap, inl, inr, refl, subst, sym}
use Rattle.std.proofs.lemmas.Bool.{cases_Bool, false≢true}
use Rattle.std.proofs.lemmas.Option.{same_Some}
use Rattle.adf_tree.specs.Tree.{Tree}
use Rattle.adf_blocks.specs.declared.cause.Cause.{Cause}
use Rattle.adf_volume.specs.{Fault.fault, Fits.FitsOf, Layout.Layout, Walk.FirstFaultOf, declared.fault.Fault.Fault}
use Rattle.adf_volume.specs.declared.types.Types.TheVariants.{WithInternational}
use Rattle.adf_volume.proofs.{FitWalks.one_fit, TypeLaws.none_fits_of, TypeLaws.one_fault_of}
use Rattle.adf_findings.proofs.{FitsOrFault.fits_or_fault_of, OneSurvey.one_survey, SomeSurvey.some_survey}
use Rattle.adf_uncached.specs.Uncached.{cache_fault, uncached}
use Rattle.adf_uncached.specs.{Cached.FirstFaultCached, Cached.FitsCached}
use Rattle.adf_uncached.specs.Verdict.{FirstFaultUncached, FirstFaultUncached.at_bit, FirstFaultUncached.at_cache, FirstFaultUncached.at_part}
use Rattle.adf_uncached.specs.Verdict.{FitsUncached, is_of_bit}
use Rattle.adf_uncached.proofs.FaultSteps.{bit_told, cache_told, caches_told, fault_told}

clash : {A : Type 0} {t : Bool} → t ≡ true → t ≡ false → A
clash h k = absurd (false≢true (sym k ∙ h))

same_fault : (caches : Option Fault) (b d : ℕ) (c e : Cause) → caches ≡ Some (fault b c) → caches ≡ Some (fault d e) → (b ≡ d) × (c ≡ e)
same_fault caches b d c e h k =
    let one = same_Some (fault b c) (fault d e) (sym h ∙ k) in
    (ap (λ (f : Fault). f.block) one, ap (λ (f : Fault). f.cause) one)

some_none : {A : Type 0} (caches : Option Fault) (f : Fault) → caches ≡ Some f → caches ≡ None → A
some_none caches f h k = let both : Some f ≡ None = sym h ∙ k in cc

module _ (caches : Option Fault) (bytes : List ℕ) where
  one_first : (b d : ℕ) (c e : Cause) → FirstFaultUncached caches bytes b c → FirstFaultUncached caches bytes d e → (b ≡ d) × (c ≡ e)
  one_first b d c e (at_part h p) (at_part k q) = one_fault_of WithInternational bytes b c d e h k
  one_first b d c e (at_part h p) (at_cache k q) = clash (k b c h) p
  one_first b d c e (at_part h p) (at_bit none k q) = one_fault_of WithInternational bytes b c d e h k
  one_first b d c e (at_cache h p) (at_part k q) = clash (h d e k) q
  one_first b d c e (at_cache h p) (at_cache k q) = same_fault caches b d c e p q
  one_first b d c e (at_cache h p) (at_bit none k q) = some_none caches (fault b c) p none
  one_first b d c e (at_bit none h p) (at_part k q) = one_fault_of WithInternational bytes b c d e h k
  one_first b d c e (at_bit none h p) (at_cache k q) = some_none caches (fault d e) q none
  one_first b d c e (at_bit none h p) (at_bit also k q) = one_fault_of WithInternational bytes b c d e h k

  none_first : (b : ℕ) (c : Cause) (t : Tree) (l : Layout) → FirstFaultUncached caches bytes b c → FitsUncached caches bytes t l → ⊥
  none_first b c t l (at_part h p) fit = none_fits_of WithInternational bytes b c t l h fit.fits
  none_first b c t l (at_cache h p) fit = some_none caches (fault b c) p fit.right
  none_first b c t l (at_bit none h p) fit = none_fits_of WithInternational bytes b c t l h fit.fits

  by_caches : (t : Tree) (l : Layout) → FitsOf WithInternational bytes t l → (o : Option Fault) → caches ≡ o
      → FitsUncached caches bytes t l ⊎ ((b : ℕ) × (c : Cause) × FirstFaultUncached caches bytes b c)
  by_caches t l fits None is = inl (record { right = is; fits = fits })
  by_caches t l fits (Some f) is = inr (f.block, f.cause, caches_told bytes caches t l f fits is)

  by_fault : (b : ℕ) (c : Cause) → FirstFaultOf WithInternational bytes b c → is_of_bit c ≡ true → (o : Option Fault) → caches ≡ o
      → (d : ℕ) × (e : Cause) × FirstFaultUncached caches bytes d e
  by_fault b c first bit None is = (b, c, bit_told bytes caches b c first bit is)
  by_fault b c first bit (Some f) is = (f.block, f.cause, cache_told bytes caches b c f first bit is)

  fits_or_first : ((t : Tree) × (l : Layout) × FitsUncached caches bytes t l) ⊎ ((b : ℕ) × (c : Cause) × FirstFaultUncached caches bytes b c)
  fits_or_first = elim (fits_or_fault_of WithInternational bytes) [
    | inl f ↦ elim (by_caches f.0 f.1 f.2 caches refl) [ inl y ↦ inl (f.0, f.1, y) | inr y ↦ inr y ]
    | inr f ↦ elim (cases_Bool (is_of_bit f.1)) [
      | inl y ↦ inr (by_fault f.0 f.1 f.2 y caches refl)
      | inr y ↦ inr (f.0, f.1, fault_told bytes caches f.0 f.1 f.2 y)
    ]
  ]

module _ (image : List ℕ) where
  pub one_cached_fit : (t u : Tree) (l m : Layout) → FitsCached image t l → FitsCached image u m → (t ≡ u) × (l ≡ m)
  one_cached_fit t u l m h k =
      let same = (one_survey image h.walk k.walk h.findings k.findings h.survey k.survey).0 in
      let other = subst (λ v. FitsUncached (cache_fault image v) (uncached image v) u m) (sym same) k.fits in
      one_fit (uncached image h.walk) t u l m h.fits.fits.1 other.fits.1

  pub one_cached_fault : (b d : ℕ) (c e : Cause) → FirstFaultCached image b c → FirstFaultCached image d e → (b ≡ d) × (c ≡ e)
  one_cached_fault b d c e h k =
      let same = (one_survey image h.walk k.walk h.findings k.findings h.survey k.survey).0 in
      let other = subst (λ v. FirstFaultUncached (cache_fault image v) (uncached image v) d e) (sym same) k.first in
      one_first (cache_fault image h.walk) (uncached image h.walk) b d c e h.first other

  pub none_cached_fits : (b : ℕ) (c : Cause) (t : Tree) (l : Layout) → FirstFaultCached image b c → FitsCached image t l → ⊥
  none_cached_fits b c t l h k =
      let same = (one_survey image h.walk k.walk h.findings k.findings h.survey k.survey).0 in
      let other = subst (λ v. FitsUncached (cache_fault image v) (uncached image v) t l) (sym same) k.fits in
      none_first (cache_fault image h.walk) (uncached image h.walk) b c t l h.first other

  pub some_verdict : ((t : Tree) × (l : Layout) × FitsCached image t l) ⊎ ((b : ℕ) × (c : Cause) × FirstFaultCached image b c)
  some_verdict =
      let s = some_survey image in
      elim (fits_or_first (cache_fault image s.0) (uncached image s.0)) [
        | inl y ↦ inl (y.0, y.1, record { walk = s.0; findings = s.1; survey = s.2; fits = y.2 })
        | inr y ↦ inr (y.0, y.1, record { walk = s.0; findings = s.1; survey = s.2; first = y.2 })
      ]
