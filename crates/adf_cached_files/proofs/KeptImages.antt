-- What is told of an image that is kept as one without caches.
-- Letters: u what is kept; b a block, c a cause; t a tree; l a layout.
use Rattle.std.specs.Prelude.{◌≤◌}
use Rattle.std.proofs.Common.{◌≡◌, ◌∙◌, ℕ, List, ap, arith, inl, length, refl, subst, sym}
use Rattle.adf_base.specs.declared.hash.Letters.{Letters}
use Rattle.adf_tree.specs.Tree.{Tree}
use Rattle.adf_blocks.specs.declared.cause.Cause.{Cause, TheVariants.DirCache}
use Rattle.adf_volume.specs.{Fits.FitsBy, Image.root_of, Layout.Layout}
use Rattle.adf_volume.specs.declared.owner.Owner.TheVariants.{Root}
use Rattle.adf_findings.proofs.SomeSurvey.{some_survey}
use Rattle.adf_uncached.specs.{Cached.FitsCached, Uncached.uncached, declared.images.Uncached.Uncached}
use Rattle.adf_uncached.specs.Verdict.{FirstFaultUncached, FitsUncached}
use Rattle.adf_cached_files.specs.InPlace.{FirstFaultInPlace, FirstFaultInPlace.of_pages, FirstFaultInPlace.of_volume, FitsInPlace, IsKeptOf}
use Rattle.adf_cached_files.specs.Sameness.{IsSameButBitmap}
use Rattle.adf_uncached.proofs.SameLength.{length-uncached}

module _ (image : List ℕ) (u : Uncached) (held : IsKeptOf image u) where
  pub fits_told : (t : Tree) (l : Layout) → FitsUncached u.fault u.image.items t l → FitsCached image t l
  fits_told t l fits =
      let s = some_survey image in
      let is = held s.0 s.1 s.2 in
      record {
        walk = s.0;
        findings = s.1;
        survey = s.2;
        fits = subst (λ f. FitsUncached f (uncached image s.0) t l) is.fault (subst (λ b. FitsUncached u.fault b t l) is.bytes fits);
      }

  pub first_told : (b : ℕ) (c : Cause) → FirstFaultUncached u.fault u.image.items b c → FirstFaultInPlace image b c
  first_told b c first =
      let s = some_survey image in
      let is = held s.0 s.1 s.2 in
      of_volume (record {
        walk = s.0;
        findings = s.1;
        survey = s.2;
        first = subst (λ f. FirstFaultUncached f (uncached image s.0) b c) is.fault (subst (λ v. FirstFaultUncached u.fault v b c) is.bytes first);
      })

  -- what fits the image fits what is kept
  pub fits_kept : (t : Tree) (l : Layout) → FitsCached image t l → FitsUncached u.fault u.image.items t l
  fits_kept t l fits =
      let is = held fits.walk fits.findings fits.survey in
      subst (λ b. FitsUncached u.fault b t l) (sym is.bytes)
      (subst (λ f. FitsUncached f (uncached image fits.walk) t l) (sym is.fault) fits.fits)

  -- it is as long as the image
  pub length_told : length image ≡ length u.image.items
  length_told =
      let s = some_survey image in
      let is = held s.0 s.1 s.2 in
      sym (ap length is.bytes ∙ length-uncached image s.0)

  -- where it is the same but for the bitmap
  pub place_told : (t : Tree) (l : Layout) → FitsUncached u.fault u.image.items t l → IsSameButBitmap image u.image.items l → FitsInPlace image t l
  place_told t l fits same =
      let told = fits_told t l fits in
      let is = held told.walk told.findings told.survey in
      record { cached = told; same = subst (λ b. IsSameButBitmap image b l) is.bytes same }

  -- and where it is not
  pub pages_told : (t : Tree) (l : Layout) (b : ℕ) (c : Cause) → FitsUncached u.fault u.image.items t l → ¬ IsSameButBitmap image u.image.items l
      → b ≡ root_of image → c ≡ DirCache → FirstFaultInPlace image b c
  pages_told t l b c fits other at is =
      let told = fits_told t l fits in
      let here = held told.walk told.findings told.survey in
      of_pages t l told (λ same. other (subst (λ v. IsSameButBitmap image v l) (sym here.bytes) same)) at is

-- a volume has block 0
pub boot_whole : {ls : Letters} (image : List ℕ) (t : Tree) (l : Layout) → FitsBy ls image t l → 512 ≤ length image
boot_whole image t l fits = let range = fits.range Root (root_of image) (inl refl) in omega (arith, range.0, range.1)
