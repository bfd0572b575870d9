use Rattle.adf_names.proofs.SomePaths as laws
use Rattle.adf_names.proofs.path_texts.path_or_none.Goals as goal

pub returns : goal.returns
returns c = λ text. laws.path_or_none text
