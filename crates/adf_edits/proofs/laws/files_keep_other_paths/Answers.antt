use Rattle.adf_edits.specs.Edits.{file_of, new_addition}
use Rattle.adf_edits.proofs.PathsKept.{new_there, old_kept}
use Rattle.adf_edits.proofs.laws.files_keep_other_paths.Goals as goal

pub returns-clause-there : goal.returns-clause-there
returns-clause-there c = λ path size given xs ys room h. new_there (new_addition path (file_of size given)) xs ys room h

pub returns-clause-others : goal.returns-clause-others
returns-clause-others c = λ path size given xs ys room h. old_kept (new_addition path (file_of size given)) xs ys room h
