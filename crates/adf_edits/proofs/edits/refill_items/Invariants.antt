use Rattle.std.proofs.Common.{◌≡◌, map, take, drop, ◌++◌}
use Rattle.adf_edits.specs.Edits.{refilled_if}
use Rattle.adf_edits.proofs.edits.refill_items.Given as goal

abbrev pub invariant-loop-item : goal.invariant-loop-item
invariant-loop-item l = l.items ≡ map (refilled_if l.path l.bytes) (take l.item-index l.initial.items) ++ drop l.item-index l.initial.items
