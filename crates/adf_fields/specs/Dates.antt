-- Dates as texts: the civil date and time if there is one, otherwise the three numbers.
use Rattle.std.specs.Prelude.{◌≡◌, ℕ, pos, ◌+◌, ◌/◌, ◌%◌, ◌&&◌, Bool, nat_lt, List, [], ◌∷◌, ◌++◌, codes, MatchBool}
use Rattle.jiff.specs.{Words.epoch_day, Words.date_text, Types.Date}
use Rattle.adf_base.specs.{declared.dates.Stamp.Stamp, Dates.plain_text}
use Rattle.adf_fields.specs.declared.date_texts.TheConstants.{CIVIL_DAYS, DAYS_TO_1978}

-- two digits of a number below 100
abbrev pub two_digits : ℕ → List ℕ
two_digits n = (48 + n / 10) ∷ (48 + n % 10) ∷ []

-- the civil date of day n from 1970-01-01 is d
abbrev pub IsCivilDay : ℕ → Date → Type 0
IsCivilDay n d = epoch_day d ≡ pos n

-- a date that has a civil text: at most 9999-12-31, a minute of the day and a tick of the minute
abbrev pub is_civil : Stamp → Bool
is_civil s = nat_lt s.days CIVIL_DAYS && nat_lt s.mins 1440 && nat_lt s.ticks 3000

-- hours, minutes, seconds and fiftieths of a second
abbrev pub clock_text : Stamp → List ℕ
clock_text s = two_digits (s.mins / 60) ++ (codes ":" ++ (two_digits (s.mins % 60) ++ (codes ":" ++ (two_digits (s.ticks / 50) ++ (codes "." ++ two_digits
    (s.ticks % 50))))))

-- a civil date, then the time of day
abbrev pub civil_text : Date → Stamp → List ℕ
civil_text day s = date_text day ++ (codes " " ++ clock_text s)

-- t is the civil text of the date, whose day is days + DAYS_TO_1978 from 1970-01-01
abbrev pub IsCivilText : Stamp → List ℕ → Type 0
IsCivilText s t = (day : Date) × IsCivilDay (s.days + DAYS_TO_1978) day × (t ≡ civil_text day s)

-- t is the text of the date: the civil one, or the three numbers
abbrev pub IsStampText : Stamp → List ℕ → Type 0
IsStampText s t = MatchBool (is_civil s) (IsCivilText s t) (t ≡ plain_text s)

-- new is old with the text of the date appended
abbrev pub AppendsStampText : Stamp → List ℕ → List ℕ → Type 0
AppendsStampText s old new = (t : List ℕ) × IsStampText s t × (new ≡ old ++ t)

-- every date has exactly one text
abbrev pub DatesHaveOneText : Type 0
DatesHaveOneText = (s : Stamp) → ((t : List ℕ) × IsStampText s t) × ((t other : List ℕ) → IsStampText s t → IsStampText s other → t ≡ other)
