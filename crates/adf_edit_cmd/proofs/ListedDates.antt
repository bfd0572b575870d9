-- Texts that listings write of dates, and texts that say no date. text is what may say date.
use Rattle.std.proofs.Common.{◌≡◌, ◌≢◌, ◌∙◌, ◌≤ℤ◌, ℕ, ℤ, pos, negsuc, Bool, true, false, List, [], inl, inr, ap, arith, length, refl, subst, sym}
use Rattle.std.{specs.Str.bytes_eq, proofs.lemmas.Slice.Eq.bytes_eq-Decides}
use Rattle.jiff.specs.Types.{Date}
use Rattle.jiff.proofs.SpanFacts.{signed_arith}
use Rattle.adf_base.specs.{Dates.IsStamp, Dates.plain_text, declared.dates.Stamp.Stamp}
use Rattle.adf_fields.specs.Dates.{AppendsStampText, IsCivilText, IsStampText, civil_text, is_civil}
use Rattle.adf_fields.proofs.{CivilDates.civil_year, DateTexts.one_text}
use Rattle.adf_edit_cmd.specs.Lines.{SaysDate}

civil_length : (date : Stamp) (day : Date) (year : ℤ) → day.year ≡ year → pos 0 ≤ℤ year → length (civil_text day date) ≡ 22
civil_length date day (pos n) e from = rw e refl
civil_length date day (negsuc n) e from = absurd (omega (arith, signed_arith, from))

-- a civil text has 22 bytes
pub no_civil_length : (text : List ℕ) → length text ≢ 22 → (date : Stamp) → ¬ IsCivilText date text
no_civil_length text other date (day, is, e) = other (ap length e ∙ civil_length date day day.year refl (civil_year _ day is))

pub civil_where : (date : Stamp) (text : List ℕ) → is_civil date ≡ true → IsStampText date text → IsCivilText date text
civil_where date text civil is = rw civil at is

-- what is appended to no text is the text of the date; seen is how it is compared
pub same_listed : (date : Stamp) (written seen text : List ℕ) (same : Bool) → AppendsStampText date [] written → seen ≡ written
    → same ≡ bytes_eq seen text → same ≡ true → IsStampText date text
same_listed date written seen text same (t, is, e) all compared equal =
    subst (IsStampText date) (sym e ∙ sym all ∙ (bytes_eq-Decides seen text).0 (sym compared ∙ equal)) is

pub other_listed : (date : Stamp) (written seen text : List ℕ) (same : Bool) → AppendsStampText date [] written → seen ≡ written
    → same ≡ bytes_eq seen text → same ≡ false → ¬ IsStampText date text
other_listed date written seen text same (t, is, e) all compared differs other =
    let equal : bytes_eq seen text ≡ true = (bytes_eq-Decides seen text).1 (all ∙ e ∙ one_text date t text is other) in
    let clash : false ≡ true = sym differs ∙ compared ∙ equal in absurd cc

said_where : (text : List ℕ) (date : Stamp) (civil : Bool) → is_civil date ≡ civil → text ≢ plain_text date
    → (is_civil date ≡ true → ¬ IsStampText date text) → ¬ IsStampText date text
said_where text date true e plain listed is = listed e is
said_where text date false e plain listed is = plain (rw e at is)

pub no_said_date : (text : List ℕ) → ((date : Stamp) → IsStamp date → text ≢ plain_text date)
    → ((date : Stamp) → is_civil date ≡ true → ¬ IsStampText date text) → (date : Stamp) → ¬ SaysDate text date
no_said_date text plain listed date (is, inl e) = plain date is e
no_said_date text plain listed date (is, inr t) = said_where text date (is_civil date) refl (plain date is) (listed date) t
