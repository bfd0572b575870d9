use Rattle.std.proofs.Common.{◌≡◌, ◌≤◌, ◌<◌, ℕ, List, ap, subst, Some, ◌∙◌}
use Rattle.adf_blocks.specs.Sizes.{blocks}
use Rattle.adf_volume.specs.{declared.owner.Owner.Owner, Layout.owned, Lists.In}
use Rattle.adf_volume.specs.{OwnerClass.class_of, declared.owner_class.OwnerClass.TheVariants.Free, declared.kept_owner.KeptOwner.KeptOwner}
use Rattle.adf_check.specs.Volumes.{OnVolume}
use Rattle.adf_check.proofs.StoreStands.{stands}
use Rattle.adf_check.proofs.checked.Checked.owner_class.Goals as goal

pub returns-then-b-blocks-clause-part : goal.returns-then-b-blocks-clause-part
returns-then-b-blocks-clause-part c =
    subst (λ (i : List ℕ). OnVolume i (λ _ l. (o : Owner) → In (owned i l) (o, c.args.b) → Some c.at.result.class ≡ Some (class_of o)))
    c.self.view_is (λ letters t l fits o has.
    ap (λ (kept : KeptOwner). Some kept.class) (c.at.ensures.owner ∙ (stands c.self.invariant.tells fits).owners.part o c.args.b has))

pub returns-then-b-blocks-clause-free : goal.returns-then-b-blocks-clause-free
returns-then-b-blocks-clause-free c =
    subst (λ (i : List ℕ). OnVolume i (λ _ l. 2 ≤ c.args.b → c.args.b < blocks i
    → ((o : Owner) → In (owned i l) (o, c.args.b) → ⊥) → Some c.at.result.class ≡ Some Free))
    c.self.view_is (λ letters t l fits from inside none.
    ap (λ (kept : KeptOwner). Some kept.class) (c.at.ensures.owner ∙ (stands c.self.invariant.tells fits).owners.free c.args.b from inside none))
