-- What is written of the tree of a volume.
use Rattle.std.specs.Prelude.{ℕ, List}
use Rattle.adf_base.specs.declared.dates.Stamp.{Stamp}
use Rattle.adf_tree.specs.Tree.{Tree}
use Rattle.adf_volume.specs.{Layout.Layout, Fits.Fits}
use Rattle.adf_texts.specs.VolumeLines.{AreDates}

-- it holds of the tree that fits an image, and of any function that gives each date its text
abbrev pub InAnyDates : List ℕ → ((Stamp → List ℕ) → Tree → Type 0) → Type 0
InAnyDates image holds = (date : Stamp → List ℕ) (t : Tree) (l : Layout) → AreDates date → Fits image t l → holds date t
