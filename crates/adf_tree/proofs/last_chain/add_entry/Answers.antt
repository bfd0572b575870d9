use Rattle.adf_tree.proofs.last_chain.add_entry.Goals as goal

pub prepare-requires-clause-order : goal.prepare-requires-clause-order
prepare-requires-clause-order c = rw c.deref.ensures.value c.requires.tree.order
