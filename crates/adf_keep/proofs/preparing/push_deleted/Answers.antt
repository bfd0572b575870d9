use Rattle.std.proofs.Common.{◌≡◌, ◌∙◌, ◌∷◌, [], None, Some, inl, subst, sym}
use Rattle.adf_volume.specs.Lists.{In}
use Rattle.adf_volume.proofs.Lists.{in_left, in_right}
use Rattle.adf_keep.proofs.Rescues.{some_same}
use Rattle.adf_keep.proofs.preparing.push_deleted.Goals as goal

pub returns-in_ok-push-in-Some-clause-stay : goal.returns-in_ok-push-in-Some-clause-stay
returns-in_ok-push-in-Some-clause-stay c = λ y listed.
    subst (λ xs. In xs y) (sym c.in_ok-push-in-Some.ensures.items) (in_left c.args.out.now.items (c.in-Some.told ∷ []) y listed)

pub returns-in_ok-push-in-Some-clause-told : goal.returns-in_ok-push-in-Some-clause-told
returns-in_ok-push-in-Some-clause-told c = λ y is.
    let same : Some c.in-Some.told ≡ Some y = sym c.in-Some.is ∙ c.deleted_told.ensures y is in
    subst (λ xs. In xs y) (sym c.in_ok-push-in-Some.ensures.items) (in_right c.args.out.now.items (c.in-Some.told ∷ []) y (inl (some_same same)))

pub returns-in-None-clause-told : goal.returns-in-None-clause-told
returns-in-None-clause-told c = λ y is. let same : None ≡ Some y = sym c.in-None.is ∙ c.deleted_told.ensures y is in absurd (cc)
