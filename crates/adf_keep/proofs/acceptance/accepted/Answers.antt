use Rattle.std.proofs.Common.{◌∙◌, IfNone, IfOk, IfSome, ap, subst, sym}
use Rattle.adf_volume.specs.{Fits.FitsBy, Types.letters_for}
use Rattle.adf_keep.specs.Rescued.{IsOwnTree, SaysOfs}
use Rattle.adf_keep.proofs.WholeRescue.{none_all}
use Rattle.adf_keep.proofs.acceptance.accepted.Goals as goal

pub returns-in-Ok-clause-whole : goal.returns-in-Ok-clause-whole
returns-in-Ok-clause-whole c =
    let types = c.args.types in
    let v = c.in-Ok.volume in
    let (t, l, fits) = c.in-Ok.ensures.fits in
    let own = subst (λ ls. FitsBy ls v t l) (c.letters_for.ensures ∙ ap (letters_for types) (sym c.in-Ok.ensures.image)) fits in
    subst (λ x. IfOk c.whole_of.result (λ r. IfSome r (IsOwnTree types x))) c.in-Ok.ensures.image (c.whole_of.ensures.whole types t l own)

pub returns-in-Ok-clause-none : goal.returns-in-Ok-clause-none
returns-in-Ok-clause-none c =
    let types = c.args.types in
    subst (λ x. IfOk c.whole_of.result (λ r. IfNone r ((t : _) (l : _) → FitsBy (letters_for types x) x t l → SaysOfs x t l))) c.in-Ok.ensures.image
    (none_all c.whole_of.result _ _ (λ t l fits. c.whole_of.ensures.none (letters_for types c.in-Ok.volume) t l fits))
