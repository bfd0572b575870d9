use Rattle.std.proofs.Common.{◌∷◌, [], inl, refl, subst, sym}
use Rattle.adf_volume.specs.Lists.{In}
use Rattle.adf_volume.proofs.Lists.{in_left, in_right}
use Rattle.adf_keep.proofs.preparing.push_told.Goals as goal

pub returns-in_ok-push-clause-stay : goal.returns-in_ok-push-clause-stay
returns-in_ok-push-clause-stay c = λ y listed.
    subst (λ xs. In xs y) (sym c.in_ok-push.ensures.items) (in_left c.args.out.now.items (c.args.left.now ∷ []) y listed)

pub returns-in_ok-push-clause-told : goal.returns-in_ok-push-clause-told
returns-in_ok-push-clause-told c = λ x claim proposed.
    subst (λ xs. In xs c.args.left.now) (sym c.in_ok-push.ensures.items) (in_right c.args.out.now.items (c.args.left.now ∷ []) c.args.left.now (inl refl))
