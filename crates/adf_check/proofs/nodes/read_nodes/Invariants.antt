use Rattle.std.proofs.Common.{suc, ◌-◌}
use Rattle.adf_blocks.specs.Sizes.{blocks}
use Rattle.adf_check.specs.{Reading.IsAtNode, Store.store_value}
use Rattle.adf_check.proofs.nodes.read_nodes.Given as goal

abbrev pub invariant-loop-node : goal.invariant-loop-node
invariant-loop-node l = IsAtNode l.image (store_value l.store) l.node

abbrev pub decreases-loop-node : goal.decreases-loop-node
decreases-loop-node l = suc (blocks l.image) - l.node
