use Rattle.std.proofs.Common.{◌≡◌, length, take}
use Rattle.adf_edits.specs.Outline.{tree_additions}
use Rattle.adf_edits.proofs.outline.items_of.Given as goal

abbrev pub invariant-loop-i : goal.invariant-loop-i
invariant-loop-i l = record {
  additions : l.items.items ≡ tree_additions (take l.i l.tree.entries);
  count : length l.items.items ≡ l.i;
}
