-- The roles and the values of findings.
use Rattle.std.specs.Prelude.{Option, Some, None}
use Rattle.adf_volume.specs.{Walk.Role, Parts.role_of, declared.part.Part.Part}
use Rattle.adf_findings.specs.{declared.finding.Finding.Finding, Survey.FindingValue}

-- the role of a part, if there is one
abbrev pub part_role : Option Part → Option Role
part_role None = None
part_role (Some p) = Some (role_of p)

-- the value of a finding in the code
abbrev pub finding_value : Finding → FindingValue
finding_value f = record { part = part_role f.part; block = f.block; cause = f.cause }
