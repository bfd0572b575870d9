use Rattle.std.proofs.Common.{◌≡◌, ◌++◌, drop, take}
use Rattle.std.specs.List.{filter}
use Rattle.adf_edits.specs.{Edits.is_within, Index.left_without, Index.standing}
use Rattle.adf_edits.proofs.index.take_each_within.Given as goal

abbrev pub invariant-loop-entry : goal.invariant-loop-entry
invariant-loop-entry l = record {
  entries : l.entries ≡ left_without l.path (take l.entry-index l.initial.entries) ++ drop l.entry-index l.initial.entries;
  taken : l.taken.items ≡ l.initial.taken.items ++ filter (is_within l.path) (standing (take l.entry-index l.initial.entries));
}
