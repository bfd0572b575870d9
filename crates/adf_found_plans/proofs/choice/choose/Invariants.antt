use Rattle.std.proofs.Common.{All}
use Rattle.adf_found_plans.specs.FoundPlans.{IsOneOf}
use Rattle.adf_found_plans.proofs.choice.choose.Given as goal

abbrev pub invariant-loop-i : goal.invariant-loop-i
invariant-loop-i l = All (IsOneOf l.found) l.volumes.items
