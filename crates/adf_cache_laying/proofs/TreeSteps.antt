-- The tree of a volume is that of an image with directory caches.
-- Letters: u the image as one without caches; t the tree of the volume, s a tree, k, l, m layouts.
use Rattle.std.specs.Prelude.{None}
use Rattle.std.proofs.Common.{◌≡◌, ℕ, List, subst, sym}
use Rattle.adf_tree.specs.Tree.{Tree}
use Rattle.adf_volume.specs.{Fits.FitsOf, Layout.Layout, declared.types.Types.TheVariants.WithInternational}
use Rattle.adf_volume.proofs.FitWalks.{one_fit}
use Rattle.adf_findings.proofs.SomeSurvey.{some_survey}
use Rattle.adf_findings.specs.Survey.{OnSurvey}
use Rattle.adf_uncached.specs.{Cached.FitsCached, Verdict.FitsUncached, Uncached.IsUncached, Uncached.uncached, declared.images.Uncached.Uncached}
use Rattle.adf_cache_laying.specs.LaidCaches.{KeepsTree}

module _ (image : List ℕ) (u : Uncached) (held : OnSurvey image (λ v _. IsUncached image v u)) where
  -- what fits the image without caches fits the image
  pub fits_image : (t : Tree) (l : Layout) → FitsUncached u.fault u.image.items t l → FitsCached image t l
  fits_image t l fits =
      let s = some_survey image in
      let is = held s.0 s.1 s.2 in
      record {
        walk = s.0;
        findings = s.1;
        survey = s.2;
        fits = subst (λ f. FitsUncached f (uncached image s.0) t l) is.fault (subst (λ b. FitsUncached u.fault b t l) is.bytes fits);
      }

  pub tree_kept : (volume : List ℕ) (t : Tree) → (l : Layout) × FitsOf WithInternational volume t l
      → (m : Layout) × FitsOf WithInternational u.image.items t m → u.fault ≡ None → KeepsTree volume image
  tree_kept volume t had has right s k fits =
      let one : s ≡ t = (one_fit volume s t k had.0 fits.1 had.1.1).0 in
      (has.0, subst (λ x. FitsCached image x has.0) (sym one) (fits_image t has.0 (record { right = right; fits = has.1 })))

-- a volume that no tree fits keeps it
pub none_kept : (volume image : List ℕ) → ((t : Tree) (l : Layout) → FitsOf WithInternational volume t l → ⊥) → KeepsTree volume image
none_kept volume image none t l fits = absurd (none t l fits)
