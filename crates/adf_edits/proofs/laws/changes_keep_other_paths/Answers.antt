use Rattle.adf_edits.proofs.PathsKept.{change_there, unchanged_kept}
use Rattle.adf_edits.proofs.laws.changes_keep_other_paths.Goals as goal

pub returns-clause-there : goal.returns-clause-there
returns-clause-there c = λ path what given xs ys room h. change_there path what xs ys room h

pub returns-clause-others : goal.returns-clause-others
returns-clause-others c = λ path what given xs ys room h. unchanged_kept path what xs ys room h
