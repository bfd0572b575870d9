use Rattle.std.proofs.Common.{◌≡◌, ◌+◌, ◌++◌, drop}
use Rattle.adf_build.specs.{Laid.heads_from, Laid.node_blocks, Plan.entries_blocks}
use Rattle.adf_build.proofs.nodes.nodes_of.Given as goal

abbrev pub invariant-loop-i : goal.invariant-loop-i
invariant-loop-i l = record {
  work : l.nodes.items ++ heads_from l.plan.blocks l.tree.kind l.k (drop l.i l.tree.entries) ≡ node_blocks l.tree l.plan.blocks;
  room : l.k + entries_blocks l.tree.kind (drop l.i l.tree.entries) ≡ entries_blocks l.tree.kind l.tree.entries;
}
