use Rattle.std.proofs.Common.{map}
use Rattle.adf_findings.specs.{Parts.finding_value, Found.HasReportedOn}
use Rattle.adf_findings.proofs.bits.compare_word.Given as goal

abbrev pub invariant-loop-b : goal.invariant-loop-b
invariant-loop-b l = HasReportedOn l.image l.found (map finding_value l.findings.items) l.b
