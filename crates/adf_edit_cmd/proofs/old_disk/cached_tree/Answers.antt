use Rattle.adf_edit_cmd.proofs.CachedSteps.{same_blocks, same_tree}
use Rattle.adf_edit_cmd.proofs.old_disk.cached_tree.Goals as goal

pub returns-clause-tree : goal.returns-clause-tree
returns-clause-tree c = same_tree c.args.image.now c.in_ok-uncached.uncached c.in_ok-uncached.ensures c.in_ok-told.told.0 c.in_ok-told.ensures.tree

pub returns-clause-size : goal.returns-clause-size
returns-clause-size c =
    same_blocks c.args.image.now c.in_ok-uncached.uncached c.in_ok-uncached.ensures c.in_ok-told.told.1 c.in_ok-told.ensures.size
