use Rattle.std.proofs.Common.{◌≡◌, ◌≤◌, ◌+◌, ◌*◌, ℕ, length, drop}
use Rattle.adf_volume.specs.Layout.{nodes_from_by}
use Rattle.adf_build.specs.{Laid.entries_writes, Writes.with_blocks, Plan.entries_blocks, Order.RisesFromBy}
use Rattle.adf_build.proofs.entries.write_entries.Given as goal

abbrev pub invariant-loop-i : goal.invariant-loop-i
invariant-loop-i l = record {
  work : with_blocks l.image (entries_writes l.plan.blocks l.tree (l.i + 1) l.k (drop l.i l.tree.entries))
      ≡ with_blocks l.initial.image (entries_writes l.plan.blocks l.tree 1 0 l.tree.entries);
  room : l.k + entries_blocks l.tree.kind (drop l.i l.tree.entries) ≡ entries_blocks l.tree.kind l.tree.entries;
  within : l.child ≤ length l.tree.entries;
  low : RisesFromBy l.tree.letters (72 * (l.i + 1)) (drop l.child l.tree.entries);
  chains : (q s : ℕ) → l.i + 1 ≤ q → nodes_from_by l.tree.letters 1 l.tree.entries q s
      ≡ nodes_from_by l.tree.letters (l.child + 1) (drop l.child l.tree.entries) q s;
}
