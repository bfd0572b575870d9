use Rattle.std.proofs.Common.{◌≡◌, ◌≤◌, ◌<◌, ℕ, List, ap, subst, sym, Some, ◌∙◌, arith}
use Rattle.adf_blocks.specs.Sizes.{blocks}
use Rattle.adf_volume.specs.{declared.owner.Owner.Owner, declared.owner.Owner.TheVariants.Free, Layout.owned, Lists.In}
use Rattle.adf_volume.specs.Places.{kept_as}
use Rattle.adf_check.specs.{Store.store_value, Volumes.OnVolume}
use Rattle.adf_check.proofs.StoreStands.{data_starts, ext_starts, keeps, part_numbered, stands}
use Rattle.adf_check.proofs.checked.Checked.owner.Goals as goal

pub owner_of-requires-clause-exts : goal.owner_of-requires-clause-exts
owner_of-requires-clause-exts c =
    rw c.deref.ensures.value (ext_starts (keeps c.self.inside.image (store_value c.self.inside.store) c.self.invariant.tells))

pub owner_of-requires-clause-datas : goal.owner_of-requires-clause-datas
owner_of-requires-clause-datas c =
    rw c.deref.ensures.value (data_starts (keeps c.self.inside.image (store_value c.self.inside.store) c.self.invariant.tells))

pub returns-then-b-blocks-clause-part : goal.returns-then-b-blocks-clause-part
returns-then-b-blocks-clause-part c =
    subst (λ (i : List ℕ). OnVolume i (λ _ l. (o : Owner) → In (owned i l) (o, c.args.b) → Some c.owner_of.result ≡ Some o))
    c.self.view_is (λ letters t l fits o has. let st = stands c.self.invariant.tells fits in
    ap Some (c.owner_of.ensures.part o (rw c.deref.ensures.value (part_numbered st o c.args.b has))
    (c.at-kept.ensures.owner ∙ st.owners.part o c.args.b has ∙ ap (λ s. kept_as s o) (sym c.deref.ensures.value))))

pub returns-then-b-blocks-clause-boot : goal.returns-then-b-blocks-clause-boot
returns-then-b-blocks-clause-boot c = grind (arith, keeps)

pub returns-then-b-blocks-clause-free : goal.returns-then-b-blocks-clause-free
returns-then-b-blocks-clause-free c =
    subst (λ (i : List ℕ). OnVolume i (λ _ l. 2 ≤ c.args.b → c.args.b < blocks i
    → ((o : Owner) → In (owned i l) (o, c.args.b) → ⊥) → Some c.owner_of.result ≡ Some Free))
    c.self.view_is (λ letters t l fits from inside none. ap Some (c.owner_of.ensures.part Free tt
    (c.at-kept.ensures.owner ∙ (stands c.self.invariant.tells fits).owners.free c.args.b from inside none)))
