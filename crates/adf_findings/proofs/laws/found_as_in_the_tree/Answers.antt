use Rattle.adf_findings.proofs.TreeLookups as laws
use Rattle.adf_findings.proofs.laws.found_as_in_the_tree.Goals as goal

pub returns-clause-paths : goal.returns-clause-paths
returns-clause-paths c = λ image t l w fs fit v path n. laws.paths_as_in_tree image t l w fs fit v path n

pub returns-clause-files : goal.returns-clause-files
returns-clause-files c = λ image t l w fs fit v own n e bytes at body. laws.files_as_in_tree image t l w fs fit v own n e bytes at body

pub returns-clause-entries : goal.returns-clause-entries
returns-clause-entries c = λ image t l w fs fit v n sound. laws.entries_as_in_tree image t l w fs fit v n sound
