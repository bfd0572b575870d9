-- Every date has one text.
use Rattle.std.proofs.Common.{◌≡◌, ◌∙◌, ℕ, ◌+◌, ◌<◌, Bool, true, false, List, ◌++◌, Result, Ok, Err, OnOk, is_ok, if◌then◌else◌, arith, refl, sym}
use Rattle.std.specs.Bool.{MatchBool}
use Rattle.std.proofs.lemmas.Bool.{and_parts, ltb-true}
use Rattle.jiff.specs.Types.{Date}
use Rattle.jiff.proofs.Family.{epoch_day_injective}
use Rattle.adf_base.specs.{declared.dates.Stamp.Stamp, Dates.plain_text}
use Rattle.adf_fields.specs.Dates.{AppendsStampText, IsCivilDay, IsCivilText, IsStampText, civil_text, is_civil}
use Rattle.adf_fields.specs.declared.date_texts.TheConstants.{CIVIL_DAYS, DAYS_TO_1978}
use Rattle.adf_fields.proofs.CivilDates.{civil_date}

few_days : (s : Stamp) → is_civil s ≡ true → s.days < CIVIL_DAYS
few_days s e = ltb-true _ _ (and_parts _ _ (and_parts _ _ e).0).0

text_where : (s : Stamp) (b : Bool) → is_civil s ≡ b → (t : List ℕ) × MatchBool b (IsCivilText s t) (t ≡ plain_text s)
text_where s true e =
    let few = few_days s e in
    let day = civil_date (s.days + DAYS_TO_1978) (omega arith) in
    (civil_text day.0 s, (day.0, day.1, refl))
text_where s false e = (plain_text s, refl)

pub some_text : (s : Stamp) → (t : List ℕ) × IsStampText s t
some_text s = text_where s (is_civil s) refl

same_civil_text : (s : Stamp) (a b : Date) → IsCivilDay (s.days + DAYS_TO_1978) a → IsCivilDay (s.days + DAYS_TO_1978) b → civil_text a s ≡ civil_text b s
same_civil_text s a b p q = let same = epoch_day_injective a b (p ∙ sym q) in rw (same.0, same.1, same.2) refl

one_text_where : (s : Stamp) (b : Bool) (t u : List ℕ) → MatchBool b (IsCivilText s t) (t ≡ plain_text s)
    → MatchBool b (IsCivilText s u) (u ≡ plain_text s) → t ≡ u
one_text_where s true t u (d, day, p) (e, other, q) =
    p ∙ same_civil_text s d e day other ∙ sym q
one_text_where s false t u p q = p ∙ sym q

pub one_text : (s : Stamp) (t u : List ℕ) → IsStampText s t → IsStampText s u → t ≡ u
one_text s t u p q = one_text_where s (is_civil s) t u p q

-- the text of a date
pub date_of : Stamp → List ℕ
date_of s = (some_text s).0

pub date_of_is : (s : Stamp) → IsStampText s (date_of s)
unfolding date_of
date_of_is s = (some_text s).1

-- a call that appends the text where it succeeds
pub appends_where : {T E : Type 0} (r : Result T E) (s : Stamp) (old new t : List ℕ) → IsStampText s t → new ≡ (if is_ok r then old ++ t else old)
    → OnOk r (AppendsStampText s old new)
appends_where (Ok x) s old new t is e = (t, is, e)
appends_where (Err x) s old new t is e = tt
