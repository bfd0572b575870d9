use Rattle.std.proofs.Common.{◌≡◌, map, take, drop, ◌++◌}
use Rattle.adf_edits.specs.Edits.{changed_if}
use Rattle.adf_edits.proofs.edits.change_items.Given as goal

abbrev pub invariant-loop-item : goal.invariant-loop-item
invariant-loop-item l = l.items ≡ map (changed_if l.path l.change) (take l.item-index l.initial.items) ++ drop l.item-index l.initial.items
