use Rattle.adf_findings.proofs.{FirstFindings.finds_none, FirstFindings.first_finding, FirstFindings.none_found, TypesRead.types_read}
use Rattle.adf_volume.specs.Types.{letters_for}
use Rattle.adf_findings.specs.Types.{passed}
use Rattle.adf_findings.proofs.laws.findings_of_types.Goals as goal

pub returns-clause-first : goal.returns-clause-first
returns-clause-first c = λ types image w f fs v. first_finding image (letters_for types image) (passed types image) (types_read image types) w f fs v

pub returns-clause-fits : goal.returns-clause-fits
returns-clause-fits c = λ types image w v. none_found image (letters_for types image) (passed types image) (types_read image types) w v

pub returns-clause-none : goal.returns-clause-none
returns-clause-none c = λ types image t l w fs fit v.
    finds_none image (letters_for types image) (passed types image) (types_read image types) t l w fs fit v
