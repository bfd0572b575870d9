use Rattle.adf_edits.proofs.PathsKept.{label_keeps}
use Rattle.adf_edits.proofs.laws.labels_keep_paths.Goals as goal

pub returns : goal.returns
returns c = λ text given xs ys h q. label_keeps xs ys q h
