use Rattle.adf_findings.proofs.SoundEntries as laws
use Rattle.adf_findings.proofs.{SoundChains.chains_followed, SoundFiles.sound_listed}
use Rattle.adf_findings.proofs.laws.sound_entries.Goals as goal

pub returns-clause-header : goal.returns-clause-header
returns-clause-header c = λ image w fs n h v s. laws.sound_header image w fs n h v s

pub returns-clause-file : goal.returns-clause-file
returns-clause-file c = λ image w fs n h v s f. laws.sound_file image w fs n h v s f

pub returns-clause-order : goal.returns-clause-order
returns-clause-order c = λ image w fs n h v sound k b. let l = sound_listed image w fs n h v sound in (l.from k b, l.to k b)

pub returns-clause-chains : goal.returns-clause-chains
returns-clause-chains c = λ image w fs n h v sound m s j a i ask. chains_followed image w fs n h v sound m s j a i ask
