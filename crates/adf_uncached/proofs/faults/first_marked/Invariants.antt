use Rattle.std.proofs.Common.{◌≡◌, ◌<◌, ℕ, false}
use Rattle.adf_findings.specs.Members.{has_mark}
use Rattle.adf_uncached.proofs.faults.first_marked.Given as goal

abbrev pub invariant-loop-i : goal.invariant-loop-i
invariant-loop-i l = (k : ℕ) → k < l.i → has_mark l.marks.items k ≡ false
