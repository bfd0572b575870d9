use Rattle.adf_keep.proofs.acceptance.any_says.Given as goal

abbrev pub invariant-loop-before : goal.invariant-loop-before
invariant-loop-before l = Unit {0}
