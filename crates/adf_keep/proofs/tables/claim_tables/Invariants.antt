use Rattle.std.proofs.Common.{◌≡◌, ◌++◌, ℕ, List}
use Rattle.adf_keep.specs.{Marks.AreClaimed, File.HasExts, File.firsts, File.table_at}
use Rattle.adf_keep.proofs.tables.claim_tables.Given as goal

abbrev pub invariant-loop-m : goal.invariant-loop-m
invariant-loop-m l = record {
  all : l.tables.items ≡ firsts (table_at l.image l.head) l.m;
  own : l.own ≡ table_at l.image l.head l.m;
  exts : HasExts l.image l.head l.m;
  claims : (n : ℕ) (bs : List ℕ) → AreClaimed n l.initial.marks.items bs → AreClaimed n l.marks.items (bs ++ l.tables.items);
}
