use Rattle.std.proofs.Common.{◌≡◌, [], arith}
use Rattle.std.proofs.lemmas.Grind.{common_steps}
use Rattle.std.proofs.lemmas.Bool.Decides.{nat_tests}
use Rattle.adf_partitions.specs.Plans.{plan_value}
use Rattle.adf_found_plans.proofs.Firsts.{read_whole}
use Rattle.adf_found_plans.proofs.plans.is_read.Goals as goal

-- src/plans.rt:116:1
pub returns-else-not-is_empty : goal.returns-else-not-is_empty
returns-else-not-is_empty c = λ is.
    let none : c.in-Ok.rest.now ≡ [] = grind (arith, common_steps, nat_tests) in
    read_whole c.args.text.now c.in-Ok.rest.now (plan_value c.in-Ok.plan) c.args.volumes.now c.in-Ok.ensures.text none
    (c.are_partitions_of.ensures.count is) (c.are_partitions_of.ensures.each is)
