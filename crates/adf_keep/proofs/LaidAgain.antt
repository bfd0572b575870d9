-- What is laid is accepted with its tree, whatever boot blocks are put into it.
use Rattle.std.proofs.Common.{◌≡◌, ◌≤◌, ℕ, List, length, subst, sym}
use Rattle.adf_base.specs.declared.hash.Letters.{Letters}
use Rattle.adf_tree.specs.Tree.{Tree}
use Rattle.adf_blocks.specs.Sizes.{blocks}
use Rattle.adf_volume.specs.{Fits.FitsBy, Image.letters_of, Layout.Layout, Types.letters_for}
use Rattle.adf_volume.specs.declared.types.Types.{Types, TheVariants.Plain, TheVariants.WithInternational}
use Rattle.adf_volume.proofs.ImageStart.{own_letters}
use Rattle.adf_boot_blocks.specs.{Writing.restored, declared.boot.TheConstants.BOOT_LEN}
use Rattle.adf_boot_blocks.proofs.Restored.{restored_fits, volume_long}
use Rattle.adf_build.specs.{Laid.IsLaid, Plan.planned}
use Rattle.adf_build.proofs.LaidFits.{laid_fits}
use Rattle.adf_keep.specs.Rescued.{letters_within}

pub laid_long : (volume : List ℕ) (t : Tree) → IsLaid volume t → BOOT_LEN ≤ length volume
laid_long volume t laid = volume_long volume t (planned t (blocks volume)) (laid_fits volume t laid)

-- the letters of a tree are those by which its image is read
same_letters : (types : Types) (letters : Letters) (t : Tree) (image : List ℕ) → t.letters ≡ letters_within types letters → letters_of image ≡ t.letters
    → t.letters ≡ letters_for types image
same_letters Plain letters t image own is = own
same_letters WithInternational letters t image own is = sym is

pub laid_accepted : (types : Types) (letters : Letters) (t : Tree) (volume boot image : List ℕ) → IsLaid volume t → BOOT_LEN ≤ length boot
    → image ≡ restored volume boot → t.letters ≡ letters_within types letters → (l : Layout) × FitsBy (letters_for types image) image t l
laid_accepted types letters t volume boot image laid whole put own =
    let l : Layout = planned t (blocks volume) in
    let fits : FitsBy t.letters (restored volume boot) t l = restored_fits volume boot t l (laid_fits volume t laid) whole in
    let there : FitsBy t.letters image t l = subst (λ (x : List ℕ). FitsBy t.letters x t l) (sym put) fits in
    (l, subst (λ ls. FitsBy ls image t l) (same_letters types letters t image own (own_letters t.letters image there.boots)) there)
