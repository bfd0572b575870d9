-- Images of volumes with directory caches, read in place: from the image as it is, by the tree and the layout of the image as one without caches.
-- Letters: t a tree; l a layout; b a block, c a cause; u what is kept of an image as one without caches.
use Rattle.std.specs.Prelude.{◌≡◌, ℕ, List}
use Rattle.adf_tree.specs.Tree.{Tree}
use Rattle.adf_blocks.specs.declared.cause.Cause.{Cause, TheVariants.DirCache}
use Rattle.adf_volume.specs.{Image.root_of, Layout.Layout}
use Rattle.adf_findings.specs.Survey.{OnSurvey}
use Rattle.adf_uncached.specs.{Cached.FirstFaultCached, Cached.FitsCached, Uncached.IsUncached, Uncached.uncached, declared.images.Uncached.Uncached}
use Rattle.adf_cached_files.specs.Sameness.{IsSameButBitmap}

-- a tree and a layout fit the image as that of a volume with directory caches, and it is the same without them but for the bitmap
pub record FitsInPlace (image : List ℕ) (t : Tree) (l : Layout) : Type 0 where
  pub cached : FitsCached image t l
  pub same : IsSameButBitmap image (uncached image cached.walk) l

-- the first fault: that of a volume with directory caches; else, where more than the bitmap is another without them, the cache of the root
pub data FirstFaultInPlace (image : List ℕ) (b : ℕ) (c : Cause) : Type 0 where
  of_volume : FirstFaultCached image b c → FirstFaultInPlace image b c
  of_pages : (t : Tree) (l : Layout) (fits : FitsCached image t l) → ¬ IsSameButBitmap image (uncached image fits.walk) l
      → b ≡ root_of image → c ≡ DirCache → FirstFaultInPlace image b c

-- it is the image as one without caches
abbrev pub IsKeptOf : List ℕ → Uncached → Type 0
IsKeptOf image u = OnSurvey image (λ w _. IsUncached image w u)

-- and a tree and a layout fit the image in place
pub record IsReadInPlace (image : List ℕ) (u : Uncached) : Type 0 where
  pub kept : IsKeptOf image u
  pub fits : (t : Tree) × (l : Layout) × FitsInPlace image t l
