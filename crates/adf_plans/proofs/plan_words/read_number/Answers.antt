use Rattle.std.proofs.Common.{arith, refl, rules}
use Rattle.adf_plans.proofs.Cuts.{no_digit_high, no_digit_low, number_begun}
use Rattle.adf_plans.proofs.plan_words.read_number.Goals as goal

pub loop-i-init : goal.loop-i-init
loop-i-init c = record { small = omega arith; number = number_begun c.args.text.now (search (rules, arith)) }

pub returns-then-digit-lt48 : goal.returns-then-digit-lt48
returns-then-digit-lt48 c =
    no_digit_low c.args.text.now c.loop-i.i c.loop-i.number _ c.loop-i.invariant.number c.loop-i-test.true refl c.if-digit-lt48.true

pub returns-then-digit-gt57 : goal.returns-then-digit-gt57
returns-then-digit-gt57 c =
    no_digit_high c.args.text.now c.loop-i.i c.loop-i.number _ c.loop-i.invariant.number c.loop-i-test.true refl (search (rules, arith))
