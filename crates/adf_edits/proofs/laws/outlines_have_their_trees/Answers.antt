use Rattle.adf_edits.proofs.OutlineTrees.{outline_room, outline_tree}
use Rattle.adf_edits.proofs.laws.outlines_have_their_trees.Goals as goal

pub returns-clause-tree : goal.returns-clause-tree
returns-clause-tree c = outline_tree

pub returns-clause-room : goal.returns-clause-room
returns-clause-room c = outline_room
