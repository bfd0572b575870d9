use Rattle.std.proofs.Common.{◌≡◌, ◌%◌, ◌∙◌, arith, sym, length}
use Rattle.std.proofs.{lemmas.Bool.Decides.nat_tests, lemmas.Grind.common_steps}
use Rattle.adf_manifest.proofs.DigitLaws.{pairs_of_digits}
use Rattle.adf_manifest.proofs.digits.Digits.read.Goals as goal

pub invariant_of-result : goal.invariant_of-result
invariant_of-result c =
    let even : length c.args.text.now % 2 ≡ 0 = grind (arith, nat_tests) in
    pairs_of_digits c.args.text.now even (sym c.are_digits.ensures ∙ c.if-are_digits.true)

pub returns-then-are_digits-clause-bytes : goal.returns-then-are_digits-clause-bytes
returns-then-are_digits-clause-bytes c =
    let even : length c.args.text.now % 2 ≡ 0 = grind (arith, nat_tests) in
    (pairs_of_digits c.args.text.now even (sym c.are_digits.ensures ∙ c.if-are_digits.true)).are_bytes

pub returns-then-are_digits-clause-some : goal.returns-then-are_digits-clause-some
returns-then-are_digits-clause-some c = grind (arith, common_steps, nat_tests, pairs_of_digits)
