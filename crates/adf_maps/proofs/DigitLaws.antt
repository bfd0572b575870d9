-- Numbers that are read digit after digit. xs is a text, i the number of bytes that were read, x the next one.
use Rattle.std.proofs.Common.{◌≡◌, ◌<◌, ◌≤◌, ◌+◌, ◌*◌, ◌∙◌, ℕ, Bool, true, false, List, ◌∷◌, Some, None, length, get_or, drop, ap, sym, arith}
use Rattle.std.proofs.Common.{◌&&◌, nat_le, nat_lt, if◌then◌else◌}
use Rattle.std.proofs.{lemmas.Bool.Decides.nat_tests, lemmas.List.drop_all, Math.Seq.drop-cons, lemmas.Grind.common_steps}
use Rattle.adf_maps.specs.{Maps.digit_value, Maps.number_behind, declared.numbers.TheConstants.MOST_NUMBER}

-- what is left from a byte on
pub left_at : (xs : List ℕ) (i x : ℕ) → i < length xs → x ≡ get_or xs i 0 → drop i xs ≡ x ∷ drop (i + 1) xs
left_at xs i x lt e = grind (arith, common_steps, drop-cons)

-- the number of a text is that of what is left of it
module _ (radix : ℕ) (xs : List ℕ) (i n x : ℕ) (h : number_behind radix n (drop i xs) ≡ number_behind radix 0 xs) (lt : i < length xs) (e : x ≡ get_or xs i 0) where
  next_number : (b : Bool) → (nat_lt (digit_value x) radix && nat_le (radix * n + digit_value x) MOST_NUMBER) ≡ b
      → number_behind radix 0 xs ≡ (if b then number_behind radix (radix * n + digit_value x) (drop (i + 1) xs) else None)
  unfolding number_behind
  next_number b test = grind (arith, common_steps, left_at)

  pub digit_read : digit_value x < radix → radix * n + digit_value x ≤ MOST_NUMBER → number_behind radix (radix * n + digit_value x) (drop (i + 1) xs) ≡ number_behind radix 0 xs
  digit_read some small = sym (next_number true (grind (arith, nat_tests)))

  pub no_digit : radix ≤ digit_value x → None ≡ number_behind radix 0 xs
  no_digit large = sym (next_number false (grind (arith, nat_tests)))

  pub no_room : MOST_NUMBER < radix * n + digit_value x → None ≡ number_behind radix 0 xs
  no_room large = sym (next_number false (grind (arith, nat_tests)))

pub number_done : (radix : ℕ) (xs : List ℕ) (i n : ℕ) → length xs ≤ i → number_behind radix n (drop i xs) ≡ number_behind radix 0 xs → Some n ≡ number_behind radix 0 xs
unfolding number_behind
number_done radix xs i n le h = sym (ap (number_behind radix n) (drop_all i xs le)) ∙ h

pub ruleset digits = (digit_read, no_digit, no_room, number_done)
