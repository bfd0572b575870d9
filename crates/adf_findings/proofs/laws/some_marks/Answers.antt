use Rattle.adf_findings.specs.Files.{grave}
use Rattle.adf_findings.proofs.SomeMarks as laws
use Rattle.adf_findings.proofs.laws.some_marks.Goals as goal

pub returns-clause-sound : goal.returns-clause-sound
returns-clause-sound c = λ image w fs survey. laws.some_marks image w fs survey fs

pub returns-clause-whole : goal.returns-clause-whole
returns-clause-whole c = λ image w fs survey. laws.some_marks image w fs survey (grave fs)
