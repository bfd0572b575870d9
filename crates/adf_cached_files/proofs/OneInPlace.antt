-- One verdict on an image of a volume with directory caches that is read in place.
-- Letters: b, d blocks; c, e causes; t, u trees; l, m layouts; v, w walks of surveys.
use Rattle.std.proofs.Common.{◌≡◌, ◌∙◌, ℕ, List, subst, sym}
use Rattle.adf_tree.specs.Tree.{Tree}
use Rattle.adf_blocks.specs.declared.cause.Cause.{Cause}
use Rattle.adf_volume.specs.Layout.{Layout}
use Rattle.adf_findings.proofs.OneSurvey.{one_survey}
use Rattle.adf_uncached.specs.Uncached.{uncached}
use Rattle.adf_uncached.specs.Cached.{FitsCached}
use Rattle.adf_uncached.proofs.OneVerdict.{none_cached_fits, one_cached_fault, one_cached_fit}
use Rattle.adf_cached_files.specs.InPlace.{FirstFaultInPlace, FirstFaultInPlace.of_pages, FirstFaultInPlace.of_volume, FitsInPlace}
use Rattle.adf_cached_files.specs.Sameness.{IsSameButBitmap}

module _ (image : List ℕ) where
  pub one_fit_in_place : (t u : Tree) (l m : Layout) → FitsInPlace image t l → FitsInPlace image u m → (t ≡ u) × (l ≡ m)
  one_fit_in_place t u l m h k = one_cached_fit image t u l m h.cached k.cached

  -- where one fits in place, each that fits is the same but for the bitmap
  same_also : (t u : Tree) (l m : Layout) → FitsInPlace image t l → (fits : FitsCached image u m) → IsSameButBitmap image (uncached image fits.walk) m
  same_also t u l m h fits =
      let walk = (one_survey image h.cached.walk fits.walk h.cached.findings fits.findings h.cached.survey fits.survey).0 in
      let layout = (one_cached_fit image t u l m h.cached fits).1 in
      subst (λ w. IsSameButBitmap image (uncached image w) m) walk (subst (IsSameButBitmap image (uncached image h.cached.walk)) layout h.same)

  pub none_in_place : (b : ℕ) (c : Cause) (t : Tree) (l : Layout) → FirstFaultInPlace image b c → FitsInPlace image t l → ⊥
  none_in_place b c t l (of_volume first) h = none_cached_fits image b c t l first h.cached
  none_in_place b c t l (of_pages u m fits other at is) h = other (same_also t u l m h fits)

  pub one_fault_in_place : (b d : ℕ) (c e : Cause) → FirstFaultInPlace image b c → FirstFaultInPlace image d e → (b ≡ d) × (c ≡ e)
  one_fault_in_place b d c e (of_volume h) (of_volume k) = one_cached_fault image b d c e h k
  one_fault_in_place b d c e (of_volume h) (of_pages u m fits other at is) = absurd (none_cached_fits image b c u m h fits)
  one_fault_in_place b d c e (of_pages u m fits other at is) (of_volume k) = absurd (none_cached_fits image d e u m k fits)
  one_fault_in_place b d c e (of_pages u m fits other at is) (of_pages v n also none here so) = (at ∙ sym here, is ∙ sym so)
