use Rattle.std.specs.Prelude.{◌≡◌, ◌||◌, ℕ, drop, map}
use Rattle.adf_findings.specs.{Concerned.is_contested, Members.has_mark, Parts.finding_value}
use Rattle.adf_findings.proofs.marks.contested.Given as goal

abbrev pub invariant-loop-finding : goal.invariant-loop-finding
invariant-loop-finding l =
    (b : ℕ) → (has_mark l.marks.items b || is_contested (map finding_value (drop l.finding-index l.findings)) b)
    ≡ is_contested (map finding_value l.findings) b
