-- Products of numbers of cylinders, surfaces and blocks.
use Rattle.std.proofs.Common.{◌≡◌, ◌<◌, ◌≤◌, ℕ, ◌+◌, ◌-◌, ◌*◌, ◌^◌, arith}
use Rattle.std.proofs.{lemmas.Nat.mul-le, lemmas.Nat.mul-lt, lemmas.Grind.common_steps}

-- the product of two words fits in 64 bits
pub product_fits : (a b : ℕ) → a < 2 ^ 32 → b < 2 ^ 32 → a * b < 2 ^ 64
product_fits a b la lb = omega (arith, mul-lt a b (2 ^ 32) (2 ^ 32) la lb)

-- a part of a product is at most the product
pub below_product : (a b c : ℕ) → a ≤ b → a * c ≤ b * c
below_product a b c h = mul-le a c b c h (omega arith)

parted_sum : (a d c : ℕ) → a * c + d * c ≡ (a + d) * c
parted_sum a d c = omega arith

-- a product, parted
pub parted_product : (a b c : ℕ) → a ≤ b → a * c + (b - a) * c ≡ b * c
parted_product a b c h = grind (arith, common_steps, parted_sum)
