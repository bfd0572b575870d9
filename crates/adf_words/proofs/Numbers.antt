-- Texts that are numbers.
-- Letters: t a text, m the largest number; r what `parse` answers of it; a, b, c tests.
use Rattle.std.proofs.Common.{◌≡◌, ◌≢◌, ◌<◌, ◌≤◌, ◌^◌, ◌&&◌, ℕ, Bool, true, false, List, Some, None, Result, Ok, arith, cond, get_or, length, refl}
use Rattle.std.specs.{Result.OkIff, Str.all_ascii_digits, Str.Parse.ParsesUnsigned, Str.Parse.digits_value}
use Rattle.std.proofs.{lemmas.Bool.le-leb, lemmas.Bool.leb-true, lemmas.Result.Ok-from_Ok_iff, lemmas.Grind.common_steps}
use Rattle.std.proofs.lemmas.Str.Parse.{IsNumeralModel, numerals_by_value, parse_plain, tells_all_ascii_digits}
use Rattle.adf_words.specs.Arguments.{number_named}

numerals : IsNumeralModel (λ ds. all_ascii_digits ds ≡ true) (digits_value 10)
numerals = numerals_by_value (λ ds. all_ascii_digits ds ≡ true) tells_all_ascii_digits

unnamed : (n : ℕ) (a b c : Bool) → (a ≡ true → b ≡ true → c ≡ true → ⊥) → None ≡ cond ((a && b) && c) (Some n) None
unnamed n true true true never = absurd (never refl refl refl)
unnamed n true true false never = refl
unnamed n true false c never = refl
unnamed n false b c never = refl

module _ {E : Type 0} (m : ℕ) (t : List ℕ) (r : Result ℕ E) (h : ParsesUnsigned 32 10 t r) (first : get_or t 0 0 ≢ 43) where
  abbrev Fits : Type 0
  Fits = (all_ascii_digits t ≡ true) × (0 < length t) × (digits_value 10 t < 2 ^ 32)

  plain : OkIff r Fits (digits_value 10 t)
  plain = parse_plain numerals 32 t r h first

  -- a number that is not too large is named
  pub named : (n : ℕ) → r ≡ Ok n → n ≤ m → Some n ≡ number_named m t
  named n e few = grind (arith, common_steps, plain, le-leb)

  -- nothing else is
  pub none_named : m < 2 ^ 32 → ((n : ℕ) → r ≡ Ok n → m < n) → None ≡ number_named m t
  none_named within large = unnamed (digits_value 10 t) _ _ _ (λ a b c.
      let small = leb-true (digits_value 10 t) m c in
      let some = leb-true 1 (length t) b in
      let gives = Ok-from_Ok_iff r _ _ plain (a, omega (arith, some), omega (arith, small, within)) in
      omega (arith, small, large (digits_value 10 t) gives))
