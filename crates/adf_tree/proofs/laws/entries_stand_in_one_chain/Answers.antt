use Rattle.adf_tree.proofs.ChainMembers.{one_chain}
use Rattle.adf_tree.proofs.laws.entries_stand_in_one_chain.Goals as goal

pub returns : goal.returns
returns c = λ l es e h p s. one_chain l es e h p s
