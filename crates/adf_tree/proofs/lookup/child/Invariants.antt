use Rattle.std.proofs.Common.{◌≡◌, ◌<◌, ℕ, get_or, false}
use Rattle.adf_tree.specs.{Tree.is_child_by, declared.entry.Entry.Entry}
use Rattle.adf_tree.proofs.lookup.child.Given as goal

abbrev pub invariant-loop-i : goal.invariant-loop-i
invariant-loop-i l = (k : ℕ) (d : Entry) → k < l.i → is_child_by l.letters l.parent l.name (get_or l.entries k d) ≡ false
