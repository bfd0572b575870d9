use Rattle.std.proofs.Common.{◌≡◌, take, length}
use Rattle.adf_blocks.specs.declared.layout.TheConstants.{POINTERS}
use Rattle.adf_build.specs.Plan.{allocated}
use Rattle.adf_build.proofs.plan.Plan.table_of.Given as goal

abbrev pub invariant-loop-j : goal.invariant-loop-j
invariant-loop-j l = record {
  whole : length l.table ≡ POINTERS;
  work : take l.j l.table ≡ allocated l.self.blocks l.k l.j;
}
