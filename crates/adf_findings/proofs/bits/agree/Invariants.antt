use Rattle.std.proofs.Common.{◌≡◌, ◌-◌, ◌≤◌, ◌<◌, ◌↔◌, ℕ, false, IsBitSet}
use Rattle.adf_findings.specs.Found.{is_owned}
use Rattle.adf_findings.proofs.bits.agree.Given as goal

abbrev pub invariant-loop-b : goal.invariant-loop-b
invariant-loop-b l =
    (b : ℕ) → l.first ≤ b → b < l.b → IsBitSet l.word (b - l.first) ↔ (is_owned l.found b ≡ false)
