-- Checked volumes.
use Rattle.std.specs.Prelude.{◌≡◌, ℕ, List}
use Rattle.adf_base.specs.declared.hash.Letters.{Letters}
use Rattle.adf_names.specs.declared.meta.Stamps.{Stamps}
use Rattle.adf_tree.specs.Tree.{Tree}
use Rattle.adf_volume.specs.{Fits.FitsBy, Image.name_of, Image.root_of, Image.stamps_of, Layout.Layout}
use Rattle.adf_check.specs.{Reading.StoreFits, Store.StoreValue}

-- what holds of the tree and the layout that fit an image, by whatever letters
abbrev pub OnVolume : List ℕ → (Tree → Layout → Type 0) → Type 0
OnVolume image holds = (letters : Letters) (t : Tree) (l : Layout) → FitsBy letters image t l → holds t l

-- what every checked volume keeps of its image
pub record IsChecked (image : List ℕ) (store : StoreValue) (name : List ℕ) (dates : Stamps) : Type 0 where
  pub tells : StoreFits image store
  pub label : name ≡ name_of image (root_of image)
  pub stamps : dates ≡ stamps_of image (root_of image)
