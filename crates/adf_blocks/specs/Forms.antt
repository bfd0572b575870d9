-- The form of a block: a list of tests in order, each with the cause to report if it is the first to fail.
use Rattle.std.specs.Prelude.{◌≡◌, ℕ, ◌+◌, Bool, if◌then◌else◌, List, [], ◌∷◌, Option, Some, None, Result, slice_index, slice_range, MatchResult}
use Rattle.adf_base.specs.{Words.word, declared.dates.Stamp.Stamp}
use Rattle.adf_blocks.specs.declared.cause.Cause.{Cause}

-- a clause: whether it holds, and the cause if not
abbrev pub Clause : Type 0
Clause = Bool × Cause

-- the cause of the first clause that fails
abbrev pub first_cause : List Clause → Option Cause
first_cause [] = None
first_cause (c ∷ cs) = if c.0 then first_cause cs else Some c.1

-- the result of a reader: a view of the block if and only if every clause holds, otherwise the first cause
abbrev pub ReadsForm : {V : Type 0} → List Clause → (V → Type 0) → Result V Cause → Type 0
ReadsForm clauses IsView r = MatchResult r (λ v. (first_cause clauses ≡ None) × IsView v) (λ c. first_cause clauses ≡ Some c)

-- the text whose length is byte `at` and whose bytes follow
abbrev pub text_at : List ℕ → ℕ → List ℕ
text_at b at = slice_range b (at + 1) (at + 1 + slice_index b at)

-- the date in words i to i + 2
abbrev pub stamp_at : List ℕ → ℕ → Stamp
stamp_at b i = record { days = word b i; mins = word b (i + 1); ticks = word b (i + 2) }
