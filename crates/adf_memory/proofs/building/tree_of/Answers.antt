use Rattle.std.proofs.Common.{◌∙◌}
use Rattle.adf_memory.proofs.building.tree_of.Goals as goal

pub returns-in-Ok-clause-tree : goal.returns-in-Ok-clause-tree
returns-in-Ok-clause-tree c = λ t is. let drafted = c.in_ok-add_all.ensures.draft t is in c.in-Ok.ensures ∙ drafted.tree
