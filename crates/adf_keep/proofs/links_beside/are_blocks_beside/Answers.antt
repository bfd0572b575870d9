use Rattle.std.proofs.Common.{below_more, refl}
use Rattle.adf_keep.specs.Links.{IsBlockBeside}
use Rattle.adf_keep.proofs.links_beside.are_blocks_beside.Goals as goal

pub loop-b-preserved : goal.loop-b-preserved
loop-b-preserved c = λ are b lt.
    below_more (λ k. IsBlockBeside c.args.x.now.volume.now c.args.x.now.image.now c.args.x.now.links.now k) c.loop-b.b
    (λ k below. c.loop-b.invariant are k below) (c.if-not-is_block_beside.ensures are refl) b lt
