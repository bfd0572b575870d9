use Rattle.std.proofs.Common.{◌∙◌, List, ℕ, ap, subst, sym}
use Rattle.adf_survey_cmd.proofs.Rescued.{IsLaidWith, whole_rescue}
use Rattle.adf_survey_cmd.proofs.rescuing.rescue_accepted.Goals as goal

pub returns-clause-volume : goal.returns-clause-volume
returns-clause-volume c =
    let p = c.in-Some.prepared in
    let output : List ℕ = c.whole.result.output.items in
    let same = ap (λ v. v.items) c.whole.ensures.output in
    let laid : IsLaidWith p c.deref.result.now output =
    subst (λ (image : List ℕ). IsLaidWith p c.deref.result.now image) (sym same) c.in_ok-volume.ensures.laid in
    whole_rescue c.args.wish.types p c.args.input.now c.args.image.now c.deref.result.now output
    (rw c.in-Some.is at c.in_ok-prepared.ensures.whole) (c.deref.ensures.value ∙ c.in_ok-boot.ensures.boot) laid
