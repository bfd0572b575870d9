use Rattle.std.proofs.Common.{◌≡◌, ◌≤◌, ◌+◌, ◌-◌, ◌^◌, drop, min}
use Rattle.adf_build.specs.Plan.{entries_blocks}
use Rattle.adf_build.proofs.counting.count_entries.Given as goal

abbrev pub invariant-loop-i : goal.invariant-loop-i
invariant-loop-i l = record {
  work : min (l.sum + entries_blocks l.tree.kind (drop l.i l.tree.entries)) (2 ^ 64 - 1)
      ≡ min (entries_blocks l.tree.kind l.tree.entries) (2 ^ 64 - 1);
  fits : l.sum ≤ 2 ^ 64 - 1;
}
