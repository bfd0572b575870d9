use Rattle.std.specs.Prelude.{◌≡◌, ◌&&◌, ℕ, not, drop}
use Rattle.adf_findings.specs.{Marks.is_blamed, Members.has_mark}
use Rattle.adf_findings.proofs.marks.strike_blamed.Given as goal

abbrev pub invariant-loop-finding : goal.invariant-loop-finding
invariant-loop-finding l =
    (m : ℕ) → (has_mark l.marks.items m && not (is_blamed l.found (drop l.finding-index l.findings) m))
    ≡ (has_mark l.initial.marks.items m && not (is_blamed l.found l.findings m))
