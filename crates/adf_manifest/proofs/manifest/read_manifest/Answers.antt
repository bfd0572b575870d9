use Rattle.std.proofs.{Common.arith, lemmas.Grind.common_steps}
use Rattle.adf_manifest.proofs.{StateLaws.manifest_letters, TreesOfLines.added_tree}
use Rattle.adf_manifest.proofs.manifest.read_manifest.Goals as goal

pub returns-in-Ok-finish-clause-manifest : goal.returns-in-Ok-finish-clause-manifest
returns-in-Ok-finish-clause-manifest c = grind (arith, added_tree)

pub returns-in-Ok-finish-clause-letters : goal.returns-in-Ok-finish-clause-letters
returns-in-Ok-finish-clause-letters c = grind (arith, common_steps, manifest_letters)
