-- The civil date of each day up to 9999-12-31.
use Rattle.std.proofs.Common.{◌≡◌, ℕ, zero, suc, ◌+◌, ◌<◌, ◌≤◌, inl, inr, arith, refl, rules, pos, ◌+ℤ◌, ◌<ℤ◌, ◌≤ℤ◌}
use Rattle.std.proofs.{lemmas.Bool.cases_lt, lemmas.Int.by_lt_z}
use Rattle.jiff.specs.{Types.Date, Words.days_in_month}
use Rattle.jiff.proofs.Family.{epoch_day-lt, days_from_civil-day, days_from_civil-next_month, days_from_civil-next_year, days_from_civil-max}
use Rattle.jiff.proofs.SpanFacts.{signed_arith}
use Rattle.adf_fields.specs.{Dates.IsCivilDay, declared.date_texts.TheConstants.CIVIL_DAYS, declared.date_texts.TheConstants.DAYS_TO_1978}
use Rattle.adf_fields.proofs.Digits.{epoch_day_1970}

-- a day has a civil date
abbrev pub HasDate : ℕ → Type 0
HasDate n = (d : Date) × IsCivilDay n d

first_date : HasDate 0
first_date =
    let d : Date = record { year = pos 1970; month = 1; day = 1; year_in = search rules; month_in = search rules; day_in = search rules } in
    (d, epoch_day_1970 d (refl, refl, refl))

in_month : (n : ℕ) (d : Date) → IsCivilDay n d → d.day < days_in_month d.year d.month → HasDate (suc n)
in_month n d is short = (
  record { year = d.year; month = d.month; day = d.day + 1; year_in = d.year_in; month_in = d.month_in; day_in = (omega arith, omega arith) },
  omega (arith, signed_arith, is, days_from_civil-day d.year d.month (d.day + 1) d.day (omega arith) d.day_in.0),
)

in_year : (n : ℕ) (d : Date) → IsCivilDay n d → d.day ≡ days_in_month d.year d.month → d.month < 12 → HasDate (suc n)
in_year n d is last short = (
  record {
    year =
        d.year;
    month = d.month + 1;
    day = 1;
    year_in = d.year_in;
    month_in = (omega arith, omega arith);
    day_in = (omega arith, grind arith);
  },
  omega (arith, signed_arith, is, days_from_civil-next_month d.year d.month d.day d.month_in.0 last),
)

in_next_year : (n : ℕ) (d : Date) → IsCivilDay n d → d.month ≡ 12 → d.day ≡ 31 → n + 1 < DAYS_TO_1978 + CIVIL_DAYS → HasDate (suc n)
in_next_year n d is december last short =
    let day = rw (december, last) at is in
    let early : d.year <ℤ pos 9999 = by_lt_z d.year (pos 9999) (λ lt. lt)
    (λ ge. let year : d.year ≡ pos 9999 =
    omega (arith, signed_arith) in absurd (omega (arith, signed_arith, days_from_civil-max, rw year at day))) in (
      record {
        year = d.year +ℤ pos 1;
        month = 1;
        day = 1;
        year_in = (omega (arith, signed_arith), omega (arith, signed_arith));
        month_in = search rules;
        day_in = search rules;
      },
      omega (arith, signed_arith, day, days_from_civil-next_year d.year (d.year +ℤ pos 1) (omega (arith, signed_arith)) refl),
    )

next_date : (n : ℕ) → n + 1 < DAYS_TO_1978 + CIVIL_DAYS → HasDate n → HasDate (suc n)
next_date n short (d, is) = elim (cases_lt d.day (days_in_month d.year d.month)) [
  | inl before ↦ in_month n d is before
  | inr after ↦
      let last : d.day ≡ days_in_month d.year d.month = omega arith in
      elim (cases_lt d.month 12) [
        | inl before ↦ in_year n d is last before
        | inr after ↦ let december : d.month ≡ 12 = omega arith in in_next_year n d is december (rw december at last) short
      ]
]

pub civil_date : (n : ℕ) → n < DAYS_TO_1978 + CIVIL_DAYS → HasDate n
civil_date zero h = first_date
civil_date (suc n) h = next_date n (omega arith) (civil_date n (omega arith))

-- its year is that of 1970-01-01 or a later one
pub civil_year : (n : ℕ) (d : Date) → IsCivilDay n d → pos 0 ≤ℤ d.year
unfolding first_date
civil_year n d is = by_lt_z d.year (pos 1970)
    (λ before. let early = epoch_day-lt d first_date.0 (inl before) in absurd (omega (arith, signed_arith, is, first_date.1, early)))
    (λ from. omega (arith, signed_arith))
