use Rattle.std.proofs.Common.{ℕ, ◌<◌, get_or}
use Rattle.adf_tree.specs.{declared.entry.Entry.Entry, Bounds.IsBoundedEntry}
use Rattle.adf_tree.proofs.tree_entries.TreeEntries.bounds.Given as goal

abbrev pub invariant-loop-entry : goal.invariant-loop-entry
invariant-loop-entry l = (k : ℕ) (d : Entry) → k < l.entry-index → IsBoundedEntry (get_or l.self.entries k d)
