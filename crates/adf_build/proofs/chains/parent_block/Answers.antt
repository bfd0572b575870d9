use Rattle.std.proofs.Common.{◌≤◌, arith}
use Rattle.adf_build.proofs.Order.{parent_below}
use Rattle.adf_build.proofs.chains.parent_block.Goals as goal

pub prove-unreachable-requires : goal.prove-unreachable-requires
prove-unreachable-requires c =
    let below : c.args.entry.now.parent ≤ c.args.i =
    parent_below c.args.tree.now.letters c.args.tree.now.entries _ c.args.i c.args.entry.now c.len-count.ensures.tree c.requires.here c.requires.place in
    omega arith
