use Rattle.std.proofs.Common.{◌≡◌, ◌<◌, ◌≤◌, ◌+◌, ℕ, true}
use Rattle.adf_blocks.specs.declared.layout.TheConstants.{FIRST_SLOT}
use Rattle.adf_volume.specs.Image.{word_in}
use Rattle.adf_keep.specs.Links.{is_known}
use Rattle.adf_keep.proofs.links_beside.are_slots_known.Given as goal

abbrev pub invariant-loop-s : goal.invariant-loop-s
invariant-loop-s l = (s : ℕ) → s < l.s → 1 ≤ word_in l.x.volume.now l.b (FIRST_SLOT + s)
    → is_known l.x.volume.now l.x.places.now (word_in l.x.volume.now l.b (FIRST_SLOT + s)) ≡ true
