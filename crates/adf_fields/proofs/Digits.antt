-- Numbers below 100 in two digits.
use Rattle.std.proofs.Common.{◌≡◌, ℕ, ◌+◌, ◌-◌, ◌/◌, ◌%◌, ◌^◌, ◌<◌, List, [], arith, refl, inl, inr, false, true, sym, decimal, pos}
use Rattle.std.specs.Fmt.{padded_integral, char_count, format_spec}
use Rattle.std.proofs.{lemmas.Bool.cases_lt, lemmas.Fmt.decimal_digit, lemmas.Fmt.decimal_step}
use Rattle.jiff.specs.{Types.Date, Words.epoch_day, Words.IsYmd}
use Rattle.jiff.proofs.{SpanFacts.signed_arith, OnLiterals.jiff_on_literals}
use Rattle.adf_base.specs.declared.dates.Stamp.{Stamp}
use Rattle.adf_fields.specs.Dates.{two_digits, IsCivilDay, IsStampText, civil_text, is_civil}
use Rattle.adf_fields.specs.declared.date_texts.TheConstants.{DAYS_TO_1978}

-- what `{:02}` writes of a number below 100
pub two_places : (n : ℕ) → n < 100 → padded_integral (format_spec 32 0 4 2 (2 ^ 64 - 1)) false [] (decimal n) ≡ two_digits n
unfolding padded_integral char_count
two_places n small = elim (cases_lt n 10) [
  | inl one ↦
      let high : n / 10 ≡ 0 = omega arith in
      let low : n % 10 ≡ n = omega arith in
      rw (decimal_digit n one, high, low) refl
  | inr two ↦
      let below : n / 10 < 10 = omega arith in
      rw (decimal_step n two (omega arith), decimal_digit (n / 10) below) refl
]

-- 1970-01-01 is day 0
pub epoch_day_1970 : (d : Date) → IsYmd (pos 1970) (pos 1) (pos 1) d → epoch_day d ≡ pos 0
unfolding jiff_on_literals
epoch_day_1970 d h =
    let month : d.month ≡ 1 = omega (arith, signed_arith, h.1) in
    let day : d.day ≡ 1 = omega (arith, signed_arith, h.2) in
    rw (h.0, month, day) refl

-- the text of a date that has a civil one
pub civil_case : (s : Stamp) (d : Date) (t : List ℕ) → true ≡ is_civil s → IsCivilDay (s.days + DAYS_TO_1978) d → t ≡ civil_text d s → IsStampText s t
civil_case s d t civil day e = rw (sym civil) (d, day, e)
