use Rattle.std.proofs.Common.{◌≡◌, subst, arith, rules}
use Rattle.std.proofs.lemmas.Grind.{common_steps}
use Rattle.adf_blocks.specs.Sizes.{blocks, pages_needed}
use Rattle.adf_check.specs.{Reading.IsBeforePage, Store.store_value}
use Rattle.adf_check.proofs.PageSteps.{list_done, pages_end}
use Rattle.adf_check.proofs.pages.read_pages.Goals as goal

pub returns-clause-state : goal.returns-clause-state
returns-clause-state c =
    let image = c.args.image.now in
    let end : c.loop-i.i ≡ pages_needed (blocks image) = omega arith in
    let store = store_value c.loop-i.store in
    pages_end image store c.loop-i.holder (subst (λ k. IsBeforePage image store k c.loop-i.holder) end c.loop-i.invariant.state)

pub loop-i-preserved : goal.loop-i-preserved
loop-i-preserved c = grind (arith, common_steps, list_done)

pub returns-in_err-push-clause-fault : goal.returns-in_err-push-clause-fault
returns-in_err-push-clause-fault c = search rules
