use Rattle.adf_keep.proofs.KeptTrees.{rescued_is_proposed}
use Rattle.adf_keep.proofs.laws.rescued_entries_are_proposed.Goals as goal

pub returns : goal.returns
returns c = λ input reading cs ds terms p r e listed. rescued_is_proposed input reading cs ds terms p r e listed
