use Rattle.adf_edits.proofs.outline.with_item.Goals as goal

pub returns-in-Ok-clause-tree : goal.returns-in-Ok-clause-tree
returns-in-Ok-clause-tree c = rw (← c.item.view_is, ← c.deref.ensures.value) c.in-Ok.ensures.tree
