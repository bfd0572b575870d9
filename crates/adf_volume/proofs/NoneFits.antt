-- If there is a first fault, nothing fits.
use Rattle.std.proofs.Common.{ℕ, zero, suc, List, ◌+◌, ◌-◌, ◌/◌, ◌≤◌, arith}
use Rattle.std.proofs.lemmas.Grind.{common_steps}
use Rattle.adf_base.specs.declared.hash.Letters.{Letters}
use Rattle.adf_blocks.specs.{declared.layout.TheConstants.PAGE_BITS, declared.cause.Cause.Cause, Sizes.blocks}
use Rattle.adf_volume.specs.{Lists.In, Image.word_in, Demands.AllHold, Layout.Layout, Layout.owned, declared.owner.Owner.Owner, Fits.FitsBy, Fits.IsFree}
use Rattle.adf_volume.specs.{Walk.FirstFaultBy.at_boot, Walk.FirstFaultBy.at_due, Walk.FirstFaultBy.at_bitmap, LayoutRoles.owner_of}
use Rattle.adf_tree.specs.Tree.{Tree}
use Rattle.adf_volume.specs.Walk.{IsAbsent, IsFreeIn, demands_by, bitmap_demands, IsWalkBy, IsWhole, FirstFaultBy, Walk, Role.Page}
use Rattle.adf_volume.proofs.{Lists.all_append, Lists.fails_not_all, LayoutRoles.part_owned, LayoutRoles.owned_part, WalkAgreement.agreement}
use Rattle.adf_volume.proofs.{WalkAgreement.due_is_part, WalkCompleteness.part_walked, Sizes.size_low}

module _ {letters : Letters} (image : List ℕ) (t : Tree) (l : Layout) (fit : FitsBy letters image t l) (w : Walk) (v : IsWalkBy letters image w)
    (whole : IsWhole image w) where
  absent_of : (b : ℕ) → ((o : Owner) → In (owned image l) (o, b) → ⊥) → IsAbsent w b
  absent_of b h q k = h (owner_of q) (part_owned letters image t l fit.places q b (agreement image t l fit w q b v k))

  unowned_of : (b : ℕ) → IsAbsent w b → (o : Owner) → In (owned image l) (o, b) → ⊥
  unowned_of b h o k = let r = owned_part letters image t l fit.places o b k in h r.0 (part_walked image t l fit w v whole r.0 b r.1)

  free_of : (b : ℕ) → IsFree image l.pages b → IsFreeIn image w b
  free_of b h = (h.0, part_walked image t l fit w v whole (Page ((b - 2) / PAGE_BITS)) h.0 h.1, h.2)

  free_in_of : (b : ℕ) → IsFreeIn image w b → IsFree image l.pages b
  free_in_of b h = (h.0, agreement image t l fit w (Page ((b - 2) / PAGE_BITS)) h.0 v h.1, h.2)

  bitmap_holds : (b n : ℕ) → 2 ≤ b → b + n ≤ blocks image → AllHold (bitmap_demands image w b n)
  bitmap_holds b zero lo hi = tt
  bitmap_holds b (suc n) lo hi =
      let f = fit.bitmap b lo (omega arith) in
      ((λ a. free_of b (f.1 (unowned_of b a))), ((λ a. absent_of b (f.0 (free_in_of b a))), bitmap_holds (suc b) n (omega arith) (omega arith)))

pub none_fits : {letters : Letters} (image : List ℕ) (b : ℕ) (c : Cause) (t : Tree) (l : Layout) → FirstFaultBy letters image b c
    → FitsBy letters image t l → ⊥
none_fits image b c t l (at_boot h) fit = grind (arith, common_steps, fails_not_all, all_append)
none_fits {letters = letters} image b c t l (at_due _ w r a i v d h) fit =
    fails_not_all (demands_by letters image w r a (word_in image a i)) b c h (due_is_part image t l fit w r a i v d).1
none_fits image b c t l (at_bitmap _ w v whole h) fit = grind (arith, common_steps, size_low, fails_not_all, bitmap_holds)
