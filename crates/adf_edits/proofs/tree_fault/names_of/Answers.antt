use Rattle.std.proofs.Common.{sym}
use Rattle.adf_edits.proofs.StandingEntries.{parent_smaller}
use Rattle.adf_edits.proofs.tree_fault.names_of.Goals as goal

pub loop-entry-smaller : goal.loop-entry-smaller
loop-entry-smaller c = parent_smaller c.args.tree.now.entries c.loop-entry.node c.in-Some.entry.now c.in-Some.ensures.tree (sym c.in-Some.ensures.found)
