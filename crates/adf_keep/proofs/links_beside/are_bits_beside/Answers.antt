use Rattle.std.proofs.Common.{◌≤◌, below_more, refl}
use Rattle.adf_keep.specs.Links.{IsBitBeside}
use Rattle.adf_keep.proofs.links_beside.are_bits_beside.Goals as goal

pub loop-b-preserved : goal.loop-b-preserved
loop-b-preserved c = λ b from lt.
    below_more (λ k. 2 ≤ k → IsBitBeside c.args.x.now.volume.now c.args.x.now.image.now c.args.x.now.links.now k) c.loop-b.b
    (λ k below low. c.loop-b.invariant k low below) (λ low. c.if-not-is_bit_beside.ensures refl) b lt from
