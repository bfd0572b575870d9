use Rattle.adf_findings.proofs.PlainFindings.{finds_none, none_found}
use Rattle.adf_findings.proofs.laws.no_finding.Goals as goal

pub returns-clause-fits : goal.returns-clause-fits
returns-clause-fits c = λ image w v. none_found image w v

pub returns-clause-none : goal.returns-clause-none
returns-clause-none c = λ image t l w fs fit v. finds_none image t l w fs fit v
