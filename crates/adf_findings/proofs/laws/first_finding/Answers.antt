use Rattle.std.proofs.Common.{[]}
use Rattle.adf_base.specs.declared.hash.Letters.TheVariants.{Ascii}
use Rattle.adf_findings.proofs.{FirstFindings.first_finding, TypesRead.types_read}
use Rattle.adf_volume.specs.declared.types.Types.TheVariants.{Plain}
use Rattle.adf_findings.proofs.laws.first_finding.Goals as goal

pub returns : goal.returns
returns c = λ image w f fs v. first_finding image Ascii [] (types_read image Plain) w f fs v
