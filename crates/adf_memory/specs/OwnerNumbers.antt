-- The number of a block's owner: an `adf_role` of include/adf.h.
use Rattle.std.specs.Prelude.{◌≡◌, ◌≤◌, ◌<◌, ℕ, List}
use Rattle.adf_base.specs.declared.hash.Letters.{Letters}
use Rattle.adf_tree.specs.Tree.{Tree}
use Rattle.adf_volume.specs.{declared.owner.Owner.Owner, Fits.FitsBy, Layout.Layout, Layout.owned, Lists.In}
use Rattle.adf_volume.specs.declared.owner.Owner.TheVariants as owner
use Rattle.adf_volume.specs.OwnerClass.{class_number, class_of}

-- the number of an owner
abbrev pub owner_number : Owner → ℕ
owner_number o = class_number (class_of o)

-- r is the number of block b's owner: of the part that has it, by whatever letters, else of the boot blocks or of the free ones
pub record IsOwnerNumber (image : List ℕ) (b r : ℕ) : Type 0 where
  pub part : (letters : Letters) (t : Tree) (l : Layout) (o : Owner) → FitsBy letters image t l → In (owned image l) (o, b) → r ≡ owner_number o
  pub boot : b < 2 → r ≡ owner_number owner.Boot
  pub free : (letters : Letters) (t : Tree) (l : Layout) → FitsBy letters image t l → 2 ≤ b → ((o : Owner) → In (owned image l) (o, b) → ⊥)
      → r ≡ owner_number owner.Free
