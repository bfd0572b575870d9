use Rattle.std.specs.Prelude.{◌≡◌, map, take}
use Rattle.adf_findings.specs.Marks.{blamed}
use Rattle.adf_findings.proofs.marks.concerned.Given as goal

abbrev pub invariant-loop-finding : goal.invariant-loop-finding
invariant-loop-finding l = l.concerns.items ≡ map (λ x. blamed l.found x.part) (take l.finding-index l.findings)
