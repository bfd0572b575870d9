use Rattle.std.proofs.Common.{◌≡◌, ◌<◌, ◌∙◌, All, List, get_or, length, arith, rules, sym, subst}
use Rattle.std.proofs.lemmas.Bool.Decides.{nat_tests}
use Rattle.adf_partitions.specs.declared.found_volumes.FoundVolume.{FoundVolume}
use Rattle.adf_found_plans.specs.FoundPlans.{IsOneOf}
use Rattle.adf_found_plans.proofs.Firsts.{found_more}
use Rattle.adf_found_plans.proofs.choice.push_found.Goals as goal

pub returns : goal.returns
returns c =
    let lt : c.args.number < length c.args.found.now = grind (arith, nat_tests) in
    let is : c.copy_of.result ≡ get_or c.args.found.now c.args.number c.copy_of.result = search rules in
    subst (λ (vs : List FoundVolume). All (IsOneOf c.args.found.now) vs) (sym c.in_ok-push.ensures.items)
    (found_more c.args.found.now c.args.chosen.now.items c.copy_of.result c.args.number c.requires lt is)
