-- Tests of numbers, and what they tell.
use Rattle.std.proofs.Common.{◌≡◌, ◌<◌, ◌≤◌, ℕ, true, nat_le, nat_lt}
use Rattle.std.proofs.lemmas.Bool.{le-leb, leb-true, lt-ltb, ltb-true}

pub le_of : (a b : ℕ) → nat_le a b ≡ true → a ≤ b
le_of = leb-true

pub of_le : (a b : ℕ) → a ≤ b → nat_le a b ≡ true
of_le = le-leb

pub lt_of : (a b : ℕ) → nat_lt a b ≡ true → a < b
lt_of = ltb-true

pub of_lt : (a b : ℕ) → a < b → nat_lt a b ≡ true
of_lt = lt-ltb
