use Rattle.std.proofs.Common.{refl, []}
use Rattle.adf_findings.proofs.AllSound as laws
use Rattle.adf_findings.proofs.laws.all_sound.Goals as goal

pub returns : goal.returns
returns c = λ image w n h v own g. laws.all_sound image w [] n h v refl own g
