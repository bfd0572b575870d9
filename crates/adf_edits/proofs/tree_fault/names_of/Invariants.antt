use Rattle.adf_edits.proofs.tree_fault.names_of.Given as goal

abbrev pub decreases-loop-entry : goal.decreases-loop-entry
decreases-loop-entry l = l.node
