use Rattle.std.proofs.Common.{◌≡◌, ◌<◌, arith, below_more, refl, true}
use Rattle.adf_blocks.specs.Sizes.{blocks}
use Rattle.adf_keep.specs.Links.{IsClosed, is_known}
use Rattle.adf_keep.proofs.LinkEntries.{known_inside}
use Rattle.adf_keep.proofs.links_beside.are_closed.Goals as goal

pub loop-b-preserved : goal.loop-b-preserved
loop-b-preserved c = λ b lt.
    let x = c.args.x.now in
    below_more (λ k. is_known x.volume.now x.places.now k ≡ true → IsClosed x.volume.now x.places.now x.links.now k) c.loop-b.b
    c.loop-b.invariant (c.if-not-is_closed_if_known.ensures refl) b lt

pub returns : goal.returns
returns c = λ yes b known.
    let within : b < blocks c.args.x.now.volume.now = known_inside c.args.x.now.volume.now c.args.x.now.places.now b known in
    c.loop-b.invariant b (omega (arith, c.blocks-b-end.ensures.blocks)) known
