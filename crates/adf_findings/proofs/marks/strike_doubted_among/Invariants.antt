use Rattle.std.specs.Prelude.{◌≡◌, ◌&&◌, ℕ, Bool, not}
use Rattle.adf_findings.specs.{Marks.is_doubted, Members.has_mark}
use Rattle.adf_findings.proofs.marks.strike_doubted_among.Given as goal

abbrev pub invariant-loop-b : goal.invariant-loop-b
invariant-loop-b l =
    (m : ℕ) (t : Bool) → has_mark l.initial.marks.items m ≡ (t && not (is_doubted l.image l.found l.first m))
    → has_mark l.marks.items m ≡ (t && not (is_doubted l.image l.found l.b m))
