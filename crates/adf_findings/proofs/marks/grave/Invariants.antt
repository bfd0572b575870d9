use Rattle.std.specs.Prelude.{◌≡◌, not, take}
use Rattle.std.specs.List.{filter}
use Rattle.adf_findings.specs.{Files.is_light, Parts.finding_value}
use Rattle.adf_findings.proofs.marks.grave.Given as goal

abbrev pub invariant-loop-finding : goal.invariant-loop-finding
invariant-loop-finding l = l.graves.items ≡ filter (λ x. not (is_light (finding_value x))) (take l.finding-index l.findings)
