use Rattle.adf_findings.proofs.Directories as laws
use Rattle.adf_findings.proofs.laws.directories_first.Goals as goal

pub returns : goal.returns
returns c = λ image w fs n h v g. laws.directory_first image w fs n h v g
