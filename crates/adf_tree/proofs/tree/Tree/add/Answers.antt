use Rattle.std.specs.Result.{is_ok}
use Rattle.adf_tree.proofs.AddRoom.{tree_grown}
use Rattle.adf_tree.proofs.tree.Tree.add.Goals as goal

pub returns-clause-tree : goal.returns-clause-tree
returns-clause-tree c =
    rw (← c.self.view_is)
    (tree_grown c.self.inside.kind c.self.inside.label c.self.inside.stamps c.self.inside.entries c.add.new.self (is_ok c.add.result) c.args.path.now
    c.args.meta c.args.body c.add.ensures.entries)
