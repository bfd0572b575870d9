-- What is the same in an image and in a copy of it.
-- Letters: l the layout of the copy; b a block.
use Rattle.std.specs.Prelude.{◌≡◌, ◌<◌, ℕ, List, length}
use Rattle.adf_base.specs.Words.{block}
use Rattle.adf_blocks.specs.Sizes.{blocks}
use Rattle.adf_volume.specs.{Image.kind_of, Layout.Layout, Lists.In}

-- every block of the copy but block 0 and the bitmap pages of this layout is the same in the image
abbrev pub AreSameButPages : List ℕ → List ℕ → Layout → Type 0
AreSameButPages image copy l = (b : ℕ) → 0 < b → b < blocks copy → ¬ In l.pages b → block image b ≡ block copy b

-- the image is the same as the copy, but for the rest of block 0 and the bitmap pages
pub record IsSameButBitmap (image copy : List ℕ) (l : Layout) : Type 0 where
  pub size : length image ≡ length copy
  pub kind : kind_of image ≡ kind_of copy
  pub parts : AreSameButPages image copy l
