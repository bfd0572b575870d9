-- The built volume of a tree as a whole.
use Rattle.std.proofs.Common.{◌≡◌, ◌≤◌, ◌*◌, ℕ, List, refl, sym, subst, arith, replicate}
use Rattle.std.proofs.lemmas.Grind.{common_steps}
use Rattle.adf_base.specs.declared.hash.Letters.TheVariants.{Ascii}
use Rattle.adf_tree.specs.{Bounds.IsBounded, Tree.IsTreeBy, Tree.Tree}
use Rattle.adf_blocks.specs.{declared.layout.TheConstants.MOST_PLAIN_BLOCKS, Sizes.blocks}
use Rattle.adf_volume.specs.{Fits.Fits, Fits.FitsBy, Layout.Layout}
use Rattle.adf_build.specs.{Laid.IsLaid, Laid.IsWellFormed, Laid.writes, Laid.volume, Writes.with_blocks, Plan.planned}
use Rattle.adf_build.proofs.{LaidFits.volume_fits, LaidWrites.CanHold, LaidWrites.volume_blocks}

pub laid_bytes : (t : Tree) (n : ℕ) → with_blocks (replicate (n * 512) 0) (writes t n) ≡ volume t n
unfolding volume
laid_bytes t n = refl

pub well_formed : (t : Tree) → IsBounded t → IsTreeBy t.letters t.entries → IsWellFormed t
well_formed t bounds tree = record { tree = tree; bounds = bounds }

-- the volume of a tree is laid for it
pub volume_laid : {t : Tree} {n : ℕ} → CanHold t n → IsLaid (volume t n) t
volume_laid {t} {n} can = grind (arith, common_steps, volume_blocks)

pub is_laid : {image : List ℕ} (t : Tree) (n : ℕ) → image ≡ volume t n → CanHold t n → IsLaid image t
is_laid t n e can = subst (λ im. IsLaid im t) (sym e) (volume_laid can)

-- what is laid fits the tree, as it was planned
pub laid_as_planned : {image : List ℕ} (t : Tree) (n : ℕ) → image ≡ volume t n → CanHold t n → FitsBy t.letters image t (planned t n)
laid_as_planned t n e can = subst (λ im. FitsBy t.letters im t (planned t n)) (sym e) (volume_fits can)

-- a plain volume that fits a tree of ASCII letters by the letters of the tree fits it
pub fits_plain : {image : List ℕ} {t : Tree} {l : Layout} → blocks image ≤ MOST_PLAIN_BLOCKS → t.letters ≡ Ascii → FitsBy t.letters image t l
    → Fits image t l
fits_plain {image} {t} {l} few letters fits = (few, subst (λ ls. FitsBy ls image t l) letters fits)
