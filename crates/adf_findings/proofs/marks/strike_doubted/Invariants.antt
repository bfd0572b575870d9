use Rattle.std.specs.Prelude.{◌≡◌, ◌&&◌, ◌*◌, ℕ, min, not}
use Rattle.adf_blocks.specs.Sizes.{blocks}
use Rattle.adf_findings.specs.{Marks.is_doubted, Members.has_mark}
use Rattle.adf_findings.proofs.marks.strike_doubted.Given as goal

abbrev pub invariant-loop-i : goal.invariant-loop-i
invariant-loop-i l =
    (m : ℕ) → has_mark l.marks.items m ≡ (has_mark l.initial.marks.items m && not (is_doubted l.image l.found (min (256 * l.i) (blocks l.image)) m))
