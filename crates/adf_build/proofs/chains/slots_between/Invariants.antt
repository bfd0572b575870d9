use Rattle.std.proofs.Common.{◌≡◌, ◌≤◌, ◌<◌, ◌+◌, ℕ, length, drop, slice_index}
use Rattle.adf_blocks.specs.declared.layout.TheConstants.{SLOTS}
use Rattle.adf_volume.specs.Layout.{nodes_from_by}
use Rattle.adf_build.specs.Laid.{first_block}
use Rattle.adf_build.proofs.chains.slots_between.Given as goal

abbrev pub invariant-loop-at : goal.invariant-loop-at
invariant-loop-at l = record {
  start : l.from ≤ l.at;
  within : l.at ≤ l.end;
  whole : length l.slots ≡ SLOTS;
  filled : (s : ℕ) → s < SLOTS → slice_index l.slots s ≡ first_block (slice_index l.nodes)
      (nodes_from_by l.tree.letters (l.at + 1) (drop l.at l.tree.entries) l.p s);
}

abbrev pub decreases-loop-at : goal.decreases-loop-at
decreases-loop-at l = l.at
