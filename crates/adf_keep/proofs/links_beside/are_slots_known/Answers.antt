use Rattle.std.proofs.Common.{◌≡◌, ◌≤◌, ◌+◌, below_more, refl, true}
use Rattle.adf_blocks.specs.declared.layout.TheConstants.{FIRST_SLOT}
use Rattle.adf_volume.specs.Image.{word_in}
use Rattle.adf_keep.specs.Links.{is_known}
use Rattle.adf_keep.proofs.links_beside.are_slots_known.Goals as goal

pub loop-s-preserved : goal.loop-s-preserved
loop-s-preserved c = λ s lt.
    let volume = c.args.x.now.volume.now in
    below_more
    (λ k. 1 ≤ word_in volume c.args.b (FIRST_SLOT + k)
    → is_known volume c.args.x.now.places.now (word_in volume c.args.b (FIRST_SLOT + k)) ≡ true) c.loop-s.s
    c.loop-s.invariant (c.if-not-names_known.ensures refl) s lt
