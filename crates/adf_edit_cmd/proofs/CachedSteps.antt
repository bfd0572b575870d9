-- The disk of an image with directory caches is that of the image as one without.
-- Letters: u the image as one without caches; n a number of blocks; t a tree, l a layout.
use Rattle.std.specs.Prelude.{Bool, false, ◌/◌}
use Rattle.std.proofs.Common.{◌≡◌, ◌≤◌, ◌∙◌, ℕ, true, List, ap, arith, length, subst}
use Rattle.std.proofs.lemmas.Bool.Decides.{nat_tests}
use Rattle.adf_blocks.specs.Sizes.{blocks, is_allowed}
use Rattle.adf_boot_blocks.specs.declared.boot.TheConstants.{BOOT_LEN}
use Rattle.adf_tree.specs.Tree.{Tree}
use Rattle.adf_volume.specs.Layout.{Layout}
use Rattle.adf_findings.proofs.SomeSurvey.{some_survey}
use Rattle.adf_findings.specs.Survey.{OnSurvey}
use Rattle.adf_uncached.proofs.SameLength.{length-uncached}
use Rattle.adf_uncached.specs.{Cached.FitsCached, Uncached.IsUncached, Verdict.FitsUncached, declared.images.Uncached.Uncached}
use Rattle.adf_cache_laying.proofs.TreeSteps.{fits_image}
use Rattle.adf_edit_cmd.specs.Edited.{IsVolumeWith}

-- the image of a volume has an allowed size
pub allowed_with : (caches : Bool) (image : List ℕ) (t : Tree) → IsVolumeWith caches image t → is_allowed (blocks image) ≡ true
allowed_with true image t (l, fits) =
    subst (λ n. is_allowed (n / 512) ≡ true) (length-uncached image fits.walk) fits.fits.fits.1.boots.0.1
allowed_with false image t (l, fits) = fits.boots.0.1

-- and boot blocks
pub has_boot_blocks : (image : List ℕ) → is_allowed (blocks image) ≡ true → BOOT_LEN ≤ length image
has_boot_blocks image h = let few : 4 ≤ blocks image = grind (arith, nat_tests) in omega (arith, few)

module _ (image : List ℕ) (u : Uncached) (held : OnSurvey image (λ w _. IsUncached image w u)) where
  pub same_blocks : (n : ℕ) → n ≡ blocks u.image.items → n ≡ blocks image
  same_blocks n is =
      let s = some_survey image in
      is ∙ ap (λ k. k / 512) (ap length (held s.0 s.1 s.2).bytes ∙ length-uncached image s.0)

  pub same_tree : (t : Tree) → (l : Layout) × FitsUncached u.fault u.image.items t l → (l : Layout) × FitsCached image t l
  same_tree t fits = (fits.0, fits_image image u held t fits.0 fits.1)
