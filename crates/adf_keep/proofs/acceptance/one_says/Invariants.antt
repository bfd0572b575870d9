use Rattle.adf_keep.proofs.acceptance.one_says.Given as goal

abbrev pub invariant-loop-k : goal.invariant-loop-k
invariant-loop-k l = Unit {0}
