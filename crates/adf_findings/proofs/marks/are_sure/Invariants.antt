use Rattle.std.specs.Prelude.{◌≡◌, ◌≤◌, ◌<◌, ℕ, None}
use Rattle.adf_findings.specs.Marks.{doubted}
use Rattle.adf_findings.proofs.marks.are_sure.Given as goal

abbrev pub invariant-loop-b : goal.invariant-loop-b
invariant-loop-b l = (b : ℕ) → l.first ≤ b → b < l.b → doubted l.image l.found b ≡ None
