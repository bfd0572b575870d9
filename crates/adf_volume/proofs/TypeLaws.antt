-- The laws of fits and faults where some types are accepted.
use Rattle.std.proofs.Common.{◌≡◌, ◌∙◌, ℕ, List, inl, inr, sym, arith}
use Rattle.adf_tree.specs.Tree.{Tree}
use Rattle.adf_blocks.specs.declared.cause.Cause.{Cause}
use Rattle.adf_base.specs.declared.hash.Letters.{Letters}
use Rattle.adf_blocks.specs.Sizes.{blocks}
use Rattle.adf_volume.specs.{Fits.FitsBy, Fits.FitsOf, Layout.Layout, Walk.FirstFaultOf}
use Rattle.adf_volume.specs.declared.types.Types.{Types, TheVariants.WithInternational}
use Rattle.adf_volume.proofs.{FitWalks.own_fit, NoneFits.none_fits, OneFault.one_fault, Sizes.size_high}

-- no tree fits an image with a first fault
pub none_fits_of : (types : Types) (image : List ℕ) (b : ℕ) (c : Cause) (t : Tree) (l : Layout) → FirstFaultOf types image b c
    → FitsOf types image t l → ⊥
none_fits_of types image b c t l (inl (large, at, cause)) (few, fits) = omega (arith, large, few)
none_fits_of types image b c t l (inr (few, first)) (also, fits) = none_fits image b c t l first fits

-- what fits by some letters fits as a volume of its own type
pub own_fit_of : {letters : Letters} {image : List ℕ} {t : Tree} {l : Layout} → FitsBy letters image t l → FitsOf WithInternational image t l
own_fit_of {image = image} fits = (size_high (blocks image) fits.boots.0.1, own_fit fits)

-- an image has one first fault
pub one_fault_of : (types : Types) (image : List ℕ) (b : ℕ) (c : Cause) (b' : ℕ) (c' : Cause) → FirstFaultOf types image b c
    → FirstFaultOf types image b' c' → (b ≡ b') × (c ≡ c')
one_fault_of types image b c b' c' (inl (large, at, cause)) (inl (also, there, same)) = (at ∙ sym there, cause ∙ sym same)
one_fault_of types image b c b' c' (inl (large, at, cause)) (inr (few, first)) = absurd (omega (arith, large, few))
one_fault_of types image b c b' c' (inr (few, first)) (inl (large, at, cause)) = absurd (omega (arith, large, few))
one_fault_of types image b c b' c' (inr (few, first)) (inr (also, other)) = one_fault image b c b' c' first other
