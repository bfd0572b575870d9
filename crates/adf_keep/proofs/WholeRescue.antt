-- The rescue of an accepted image.
use Rattle.std.proofs.Common.{◌≡◌, ◌≢◌, ℕ, List, [], Option, Some, None, Result, Ok, Err, IfNone, IfOk, IfSome, subst, sym}
use Rattle.adf_tree.specs.Tree.{Tree}
use Rattle.adf_blocks.specs.{Sizes.blocks, declared.cause.Cause.TheVariants.NoMemory}
use Rattle.adf_volume.specs.{Fits.FitsBy, Layout.Layout, Types.letters_for, declared.fault.Fault.Fault, declared.types.Types.Types}
use Rattle.adf_build.specs.Building.{IsBuildable}
use Rattle.adf_keep.specs.{Rescued.IsOwnTree, declared.prepared.Prepared.Prepared}
use Rattle.adf_keep.proofs.FitBlocks.{fit_room}

-- the tree of an image has room in as many blocks
fits_again : (types : Types) (image : List ℕ) (t : Tree) (l : Layout) → FitsBy (letters_for types image) image t l → IsBuildable t (blocks image)
fits_again types image t l fits = record { allowed = fits.boots.0.1; room = fit_room image t l fits }

pub whole_rescue : (types : Types) (image : List ℕ) (p : Prepared) (t : Tree) (l : Layout) → FitsBy (letters_for types image) image t l
    → p.tree ≡ t → p.blocks ≡ blocks image → p.left_out.items ≡ [] → p.deleted_out.items ≡ [] → IsOwnTree types image p
whole_rescue types image p t l fits tree size none deleted = record {
  layout = l;
  fits = subst (λ (u : Tree). FitsBy (letters_for types image) image u l) (sym tree) fits;
  size = size;
  room = rw (tree, size) (fits_again types image t l fits);
  none_out = none;
  no_deleted_out = deleted;
}

-- what is told of an image without such a rescue, by all trees that fit it
pub none_all : {A E : Type 0} (r : Result (Option A) E) (Q P : Tree → Layout → Type 0) → ((t : Tree) (l : Layout) → Q t l → IfOk r (λ o. IfNone o (P t l)))
    → IfOk r (λ o. IfNone o ((t : Tree) (l : Layout) → Q t l → P t l))
none_all (Ok (Some x)) Q P each = tt
none_all (Ok None) Q P each = each
none_all (Err e) Q P each = tt

-- what holds of a fault that is known
pub fault_told : {E : Type 0} (r : Result (Option Fault) E) (fault : Fault) (P : Fault → Type 0) → IfOk r (λ o. o ≡ Some fault)
    → IfOk r (λ _. fault.cause ≢ NoMemory) → (fault.cause ≢ NoMemory → P fault) → IfOk r (λ o. IfSome o P)
fault_told (Ok o) fault P is known holds = subst (λ o. IfSome o P) (sym is) (holds known)
fault_told (Err e) fault P is known holds = tt
