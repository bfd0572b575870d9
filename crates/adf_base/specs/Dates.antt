-- Dates, and their text as three numbers.
use Rattle.std.specs.Prelude.{ℕ, ◌<◌, ◌^◌, List, ◌++◌, decimal, codes}
use Rattle.adf_base.specs.declared.dates.Stamp.{Stamp}

-- the three numbers of a date fit in 32 bits
pub record IsStamp (s : Stamp) : Type 0 where
  pub days : s.days < 2 ^ 32
  pub mins : s.mins < 2 ^ 32
  pub ticks : s.ticks < 2 ^ 32

-- the three numbers
abbrev pub plain_text : Stamp → List ℕ
plain_text s = decimal s.days ++ (codes ":" ++ (decimal s.mins ++ (codes ":" ++ decimal s.ticks)))
