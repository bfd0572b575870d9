use Rattle.std.proofs.Common.{arith}
use Rattle.adf_cache_laying.proofs.Items.{same_items}
use Rattle.adf_cache_laying.proofs.same_trees.have_same_entries.Goals as goal

pub returns : goal.returns
returns c = λ yes.
    same_items c.args.one.now.entries c.args.other.now.entries (omega (arith, c.len.ensures.count, c.len-2.ensures.count, c.if-len.false))
    (λ k lt. c.loop-i.invariant k (omega (arith, lt, c.len-i-end.ensures.count, c.loop-i-test.false)))
