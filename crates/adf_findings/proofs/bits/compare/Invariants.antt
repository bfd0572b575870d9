use Rattle.std.proofs.Common.{◌≡◌, ◌+◌, ◌*◌, ◌%◌, min, map}
use Rattle.adf_blocks.specs.{declared.layout.TheConstants.PAGE_WORDS, Sizes.blocks}
use Rattle.adf_findings.specs.{Bits.IsPageCompared, Parts.finding_value, Found.HasReportedOn}
use Rattle.adf_findings.proofs.bits.compare.Given as goal

abbrev pub invariant-loop-i : goal.invariant-loop-i
invariant-loop-i l = record {
  reported : HasReportedOn l.image l.found (map finding_value l.findings.items) (min (2 + 32 * l.i) (blocks l.image));
  page : (l.i % PAGE_WORDS ≡ 0 → ⊥) → IsPageCompared l.image l.found.pages (2 + 32 * l.i) l.page;
}
