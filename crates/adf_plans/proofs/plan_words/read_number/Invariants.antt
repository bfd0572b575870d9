use Rattle.std.proofs.Common.{◌≡◌, ◌≤◌, drop}
use Rattle.adf_plans.specs.{PlanTexts.number_from, PlanTexts.decimal_number, declared.plan_words.TheConstants.MOST_NUMBER}
use Rattle.adf_plans.proofs.plan_words.read_number.Given as goal

abbrev pub invariant-loop-i : goal.invariant-loop-i
invariant-loop-i l = record {
  small : l.number ≤ MOST_NUMBER;
  number : number_from l.number (drop l.i l.text) ≡ decimal_number l.text;
}
