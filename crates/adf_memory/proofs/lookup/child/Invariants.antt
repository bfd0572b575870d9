use Rattle.std.proofs.Common.{◌≡◌, ◌<◌, ℕ, List, get_or, false}
use Rattle.adf_tree.specs.{Tree.is_child_by, declared.entry.Entry.Entry}
use Rattle.adf_memory.specs.TableNames.{HasNamesOfBy}
use Rattle.adf_memory.proofs.lookup.child.Given as goal

abbrev pub invariant-loop-i : goal.invariant-loop-i
invariant-loop-i l = (es : List Entry) → HasNamesOfBy l.letters l.entries es
    → (k : ℕ) (d : Entry) → k < l.i → is_child_by l.letters l.parent l.name (get_or es k d) ≡ false
