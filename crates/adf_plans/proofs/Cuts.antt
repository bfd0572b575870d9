-- Texts that are read byte after byte. xs is a text, i the number of bytes that were read, x the next one.
use Rattle.std.proofs.Common.{◌≡◌, ◌<◌, ◌≤◌, ◌+◌, ◌-◌, ◌*◌, ◌∙◌, ℕ, Bool, true, false, List, [], ◌∷◌, Some, None, length, get_or, drop, ap, refl, sym, arith}
use Rattle.std.proofs.Common.{◌&&◌, nat_le, if◌then◌else◌}
use Rattle.std.proofs.{lemmas.Bool.Decides.nat_tests, lemmas.List.drop_all, lemmas.List.take_rest, Math.Seq.drop-cons, lemmas.Grind.common_steps}
use Rattle.std.specs.List.{position, position_or_len}
use Rattle.adf_plans.specs.{PlanTexts.number_from, PlanTexts.decimal_number, declared.plan_words.TheConstants.MOST_NUMBER}

-- what is left from a byte on
pub left_at : (xs : List ℕ) (i x : ℕ) → i < length xs → x ≡ get_or xs i 0 → drop i xs ≡ x ∷ drop (i + 1) xs
left_at xs i x lt e = grind (arith, common_steps, drop-cons)

-- where a text is cut
pub found_there : (p : ℕ → Bool) (xs : List ℕ) (i : ℕ) → Some i ≡ position p xs → i ≡ position_or_len p xs
found_there p xs i h = grind (arith, common_steps, nat_tests)

pub found_nowhere : (p : ℕ → Bool) (xs : List ℕ) → None ≡ position p xs → length xs ≤ position_or_len p xs
found_nowhere p xs h = grind (arith, common_steps, nat_tests)

pub ruleset cuts = (found_there, found_nowhere, take_rest)

-- the number of a text is that of what is left of it
module _ (xs : List ℕ) (i n x : ℕ) (h : number_from n (drop i xs) ≡ decimal_number xs) (lt : i < length xs) (e : x ≡ get_or xs i 0) where
  number_next : (b : Bool) → (nat_le 48 x && nat_le x 57 && nat_le (10 * n + (x - 48)) MOST_NUMBER) ≡ b
      → decimal_number xs ≡ (if b then number_from (10 * n + (x - 48)) (drop (i + 1) xs) else None)
  unfolding number_from
  number_next b test = grind (arith, common_steps, left_at)

  pub digit_read : 48 ≤ x → x ≤ 57 → 10 * n + (x - 48) ≤ MOST_NUMBER → number_from (10 * n + (x - 48)) (drop (i + 1) xs) ≡ decimal_number xs
  digit_read low high small = sym (number_next true (grind (arith, nat_tests)))

  pub no_digit_low : x < 48 → None ≡ decimal_number xs
  no_digit_low low = sym (number_next false (grind (arith, nat_tests)))

  pub no_digit_high : 57 < x → None ≡ decimal_number xs
  no_digit_high high = sym (number_next false (grind (arith, nat_tests)))

  pub no_room : MOST_NUMBER < 10 * n + (x - 48) → None ≡ decimal_number xs
  no_room large = sym (number_next false (grind (arith, nat_tests)))

pub number_begun : (xs : List ℕ) → 0 < length xs → number_from 0 xs ≡ decimal_number xs
number_begun [] lt = absurd (omega arith)
number_begun (x ∷ xs) lt = refl

pub number_done : (xs : List ℕ) (i n : ℕ) → length xs ≤ i → number_from n (drop i xs) ≡ decimal_number xs → Some n ≡ decimal_number xs
unfolding number_from
number_done xs i n le h = sym (ap (number_from n) (drop_all i xs le)) ∙ h
