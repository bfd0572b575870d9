use Rattle.std.proofs.Common.{◌≡◌, ◌+◌, take, length}
use Rattle.std.specs.List.{range_with_len}
use Rattle.adf_blocks.specs.Sizes.{middle}
use Rattle.adf_build.proofs.plan.Plan.page_table.Given as goal

abbrev pub invariant-loop-i : goal.invariant-loop-i
invariant-loop-i g l = record {
  whole : length l.table ≡ g.row.N;
  work : take l.i l.table ≡ range_with_len (middle l.self.blocks + 1 + l.j) l.i;
}
