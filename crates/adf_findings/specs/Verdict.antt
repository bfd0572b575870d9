-- What is so of every image.
use Rattle.std.specs.Prelude.{◌⊎◌, ℕ, List}
use Rattle.adf_blocks.specs.declared.cause.Cause.{Cause}
use Rattle.adf_tree.specs.Tree.{Tree}
use Rattle.adf_volume.specs.{Fits.FitsBy, Fits.FitsOf, Layout.Layout, Walk.FirstFaultBy, Walk.FirstFaultOf, Types.letters_for}
use Rattle.adf_volume.specs.declared.types.Types.{Types, TheVariants.Plain}

-- a tree and a layout fit the image, or it has a first fault, by the letters of these types
abbrev pub FitsOrHasFaultBy : Types → List ℕ → Type 0
FitsOrHasFaultBy types image =
    ((t : Tree) × (l : Layout) × FitsBy (letters_for types image) image t l)
    ⊎ ((b : ℕ) × (c : Cause) × FirstFaultBy (letters_for types image) image b c)

-- the same where volumes of these types are accepted, no larger than they may be
abbrev pub FitsOrHasFaultOf : Types → List ℕ → Type 0
FitsOrHasFaultOf types image =
    ((t : Tree) × (l : Layout) × FitsOf types image t l) ⊎ ((b : ℕ) × (c : Cause) × FirstFaultOf types image b c)

-- the same where types 0 and 1 alone are accepted
abbrev pub FitsOrHasFault : List ℕ → Type 0
FitsOrHasFault = FitsOrHasFaultOf Plain
