-- Values that are all 0, by a computable test.
use Rattle.std.proofs.Common.{◌≡◌, ℕ, zero, suc, ◌<◌, arith, Bool, true, rules, ◌==◌, ◌&&◌}
use Rattle.std.proofs.lemmas.Bool.{and_parts, eqb-true}

-- the first n values are 0
abbrev pub all_zero : (ℕ → ℕ) → ℕ → Bool
all_zero f zero = true
all_zero f (suc n) = (f n == 0) && all_zero f n

pub zero_at : (f : ℕ → ℕ) (n k : ℕ) → all_zero f n ≡ true → k < n → f k ≡ 0
zero_at f zero k h l = absurd (omega arith)
zero_at f (suc n) k h l = search (rules, and_parts, eqb-true, zero_at f n k (and_parts (f n == 0) (all_zero f n) h).1)
