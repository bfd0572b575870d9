use Rattle.std.proofs.{Common.arith, lemmas.Grind.common_steps}
use Rattle.adf_check.proofs.{HeaderBodies.dir_type, HeaderBodies.file_words, NodeSteps.directory_begins, NodeSteps.file_begins, NodeSteps.head_inside}
use Rattle.adf_check.proofs.nodes.read_node.Goals as goal

pub block-requires : goal.block-requires
block-requires c = grind (arith, common_steps, head_inside c.node.view_is c.if-node-eq0.false c.index.ensures c.requires.state)

pub read_directory-requires-in-Dir-clause-inside : goal.read_directory-requires-in-Dir-clause-inside
read_directory-requires-in-Dir-clause-inside c = grind (arith, common_steps, head_inside c.node.view_is c.if-node-eq0.false c.index.ensures c.requires.state)

pub read_directory-requires-in-Dir-clause-state : goal.read_directory-requires-in-Dir-clause-state
read_directory-requires-in-Dir-clause-state c = grind (arith, common_steps, directory_begins, dir_type)

pub read_file-requires : goal.read_file-requires
read_file-requires c = grind (arith, file_words, file_begins)
