use Rattle.std.proofs.Common.{◌≡◌, ◌≢◌, ◌≤◌, ◌+◌, ◌-◌, ◌*◌, ℕ, length, drop}
use Rattle.std.specs.List.{AllWithin}
use Rattle.adf_tree.specs.declared.entry.Entry.{Entry}
use Rattle.adf_volume.specs.Layout.{nodes_from_by}
use Rattle.adf_build.specs.Order.{RisesFromBy}
use Rattle.adf_build.proofs.chains.children_end.Given as goal

abbrev pub invariant-loop-end : goal.invariant-loop-end
invariant-loop-end l = record {
  start : l.from ≤ l.end;
  within : l.end ≤ length l.tree.entries;
  low : RisesFromBy l.tree.letters (72 * l.p) (drop l.end l.tree.entries);
  mine : AllWithin (λ (e : Entry). e.parent ≡ l.p) l.tree.entries l.from l.end;
  others : (q s : ℕ) → q ≢ l.p → nodes_from_by l.tree.letters (l.from + 1) (drop l.from l.tree.entries) q s
      ≡ nodes_from_by l.tree.letters (l.end + 1) (drop l.end l.tree.entries) q s;
}

abbrev pub decreases-loop-end : goal.decreases-loop-end
decreases-loop-end l = length l.tree.entries - l.end
