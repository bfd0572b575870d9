use Rattle.std.specs.Prelude.{false}
use Rattle.adf_findings.proofs.LeftOfSound as law
use Rattle.adf_findings.proofs.laws.left_of_sound.Goals as goal

pub returns : goal.returns
returns c = λ image w fs n end h sound before. law.left_of_sound image w fs false n end h sound before
