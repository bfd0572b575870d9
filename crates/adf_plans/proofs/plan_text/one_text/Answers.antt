use Rattle.adf_plans.proofs.OnePlan.{one_plan}
use Rattle.adf_plans.proofs.plan_text.one_text.Goals as goal

pub returns : goal.returns
returns c = one_plan
