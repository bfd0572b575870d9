use Rattle.std.proofs.Common.{ℕ, List, ◌++◌, vec_len}
use Rattle.adf_keep.specs.Marks.{AreClaimed}
use Rattle.adf_keep.proofs.claims.release.Given as goal

abbrev pub invariant-loop-b : goal.invariant-loop-b
invariant-loop-b l = (n : ℕ) (bs : List ℕ) → AreClaimed n l.initial.marks.items (bs ++ l.initial.claimed.items)
    → AreClaimed n l.marks.items (bs ++ l.claimed.items)

abbrev pub decreases-loop-b : goal.decreases-loop-b
decreases-loop-b l = vec_len l.claimed
