-- An allowed size.
use Rattle.std.proofs.Common.{◌≡◌, ℕ, ◌≤◌, arith, true}
use Rattle.std.proofs.lemmas.Bool.Decides.{nat_tests}
use Rattle.adf_blocks.specs.{declared.layout.TheConstants.MOST_BLOCKS, declared.layout.TheConstants.MOST_PLAIN_BLOCKS, Sizes.is_allowed, Sizes.is_plain_size}

pub size_low : (n : ℕ) → is_allowed n ≡ true → 4 ≤ n
size_low n h = grind (arith, nat_tests)

pub size_high : (n : ℕ) → is_allowed n ≡ true → n ≤ MOST_BLOCKS
size_high n h = grind (arith, nat_tests)

pub plain_size_high : (n : ℕ) → is_plain_size n ≡ true → n ≤ MOST_PLAIN_BLOCKS
plain_size_high n h = grind (arith, nat_tests)
