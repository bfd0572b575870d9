use Rattle.adf_edits.proofs.MovedPaths.{far_kept, moved_top, moved_within, source_gone}
use Rattle.adf_edits.proofs.laws.moves_keep_other_paths.Goals as goal

pub returns-clause-there : goal.returns-clause-there
returns-clause-there c = λ from to given xs ys room h. moved_top from to xs ys room h

pub returns-clause-within : goal.returns-clause-within
returns-clause-within c = λ from to given xs ys room h. moved_within from to xs ys room h

pub returns-clause-gone : goal.returns-clause-gone
returns-clause-gone c = λ from to given xs ys room h. source_gone from to xs ys room h

pub returns-clause-others : goal.returns-clause-others
returns-clause-others c = λ from to given xs ys room h. far_kept from to xs ys room h
