-- Two comparisons in one test.
use Rattle.std.proofs.Common.{◌≡◌, ℕ, arith, true, ◌==◌, ◌&&◌}
use Rattle.std.proofs.lemmas.Bool.Decides.{nat_tests}

pub both_equal : (a b c d : ℕ) → ((a == b) && (c == d)) ≡ true → (a ≡ b) × (c ≡ d)
both_equal a b c d h = grind (arith, nat_tests)

pub equal_both : (a b c d : ℕ) → a ≡ b → c ≡ d → ((a == b) && (c == d)) ≡ true
equal_both a b c d h k = grind (arith, nat_tests)
