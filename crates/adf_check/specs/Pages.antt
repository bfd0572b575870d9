-- The bitmap pages as read.
use Rattle.std.specs.Prelude.{◌≡◌, ◌≢◌, ◌⊎◌, Bool, true, false, ℕ, List, ◌<◌, length, slice_index}
use Rattle.adf_blocks.specs.{Sizes.blocks, declared.cause.Cause.TheVariants.LostBlock, declared.cause.Cause.TheVariants.OwnedFree}
use Rattle.adf_check.specs.Reading.{IsListed}
use Rattle.adf_volume.specs.{KeptOwner.kept_at, KeptOwner.no_owner, declared.kept_owner.KeptOwner.KeptOwner}
use Rattle.adf_volume.specs.{Fault.fault, declared.fault.Fault.Fault}

-- these are the blocks of the first k pages, and they are inside the image
pub record AreListed (image : List ℕ) (pages : List ℕ) (k : ℕ) : Type 0 where
  pub listed : IsListed image pages k
  pub inside : (i : ℕ) → i < length pages → slice_index pages i < blocks image

-- the bit of block b disagrees with its owner
abbrev pub IsBitFault : List KeptOwner → ℕ → Bool → Fault → Type 0
IsBitFault owners b is_free f =
    ((is_free ≡ false) × (kept_at owners b ≡ no_owner) × (f ≡ fault b LostBlock)) ⊎ ((is_free ≡ true) × (kept_at owners b ≢ no_owner) × (f ≡ fault b OwnedFree))
