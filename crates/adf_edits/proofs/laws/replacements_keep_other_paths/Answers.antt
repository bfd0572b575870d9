use Rattle.std.proofs.Common.{take}
use Rattle.adf_edits.proofs.PathsKept.{replace_there, unreplaced_kept}
use Rattle.adf_edits.proofs.laws.replacements_keep_other_paths.Goals as goal

pub returns-clause-there : goal.returns-clause-there
returns-clause-there c = λ path size given xs ys room h. replace_there path (take size given) xs ys room h

pub returns-clause-others : goal.returns-clause-others
returns-clause-others c = λ path size given xs ys room h. unreplaced_kept path (take size given) xs ys room h
