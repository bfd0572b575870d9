use Rattle.std.proofs.Common.{◌≡◌, ◌-◌, ◌/◌, ◌++◌, ℕ, List}
use Rattle.adf_blocks.specs.declared.layout.TheConstants.{POINTERS}
use Rattle.adf_keep.specs.{Marks.AreClaimed, File.firsts, File.named_at, File.table_at}
use Rattle.adf_keep.proofs.tables.claim_named.Given as goal

abbrev pub invariant-loop-k : goal.invariant-loop-k
invariant-loop-k l = record {
  named : l.datas.items ≡ firsts (named_at l.image l.head) l.k;
  table : l.table ≡ table_at l.image l.head ((l.k - 1) / POINTERS);
  claims : (n : ℕ) (bs : List ℕ) → AreClaimed n l.initial.marks.items bs → AreClaimed n l.marks.items (bs ++ l.datas.items);
}
