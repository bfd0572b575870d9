use Rattle.adf_tree.specs.declared.entry.Body.TheVariants.{Dir}
use Rattle.adf_edits.specs.Edits.{new_addition}
use Rattle.adf_edits.proofs.PathsKept.{new_there, old_kept}
use Rattle.adf_edits.proofs.laws.directories_keep_other_paths.Goals as goal

pub returns-clause-there : goal.returns-clause-there
returns-clause-there c = λ path given xs ys room h. new_there (new_addition path Dir) xs ys room h

pub returns-clause-others : goal.returns-clause-others
returns-clause-others c = λ path given xs ys room h. old_kept (new_addition path Dir) xs ys room h
