use Rattle.adf_edits.proofs.PathsKept.{gone, others_kept}
use Rattle.adf_edits.proofs.laws.removals_keep_other_paths.Goals as goal

pub returns-clause-gone : goal.returns-clause-gone
returns-clause-gone c = λ path given xs ys room h. gone path xs ys room h

pub returns-clause-others : goal.returns-clause-others
returns-clause-others c = λ path given xs ys room h. others_kept path xs ys room h
