use Rattle.std.proofs.Common.{◌∙◌, ap}
use Rattle.adf_blocks.specs.Sizes.{blocks}
use Rattle.adf_cmd.proofs.converting.tree_of.Goals as goal

pub returns-clause-tree : goal.returns-clause-tree
returns-clause-tree c =
    let (t, l, fits) = c.in_ok-volume.ensures.fits in
    (l, rw (c.in_ok-tree.ensures.tree _ t l fits.1, ← c.in_ok-volume.ensures.image) fits)

pub returns-clause-size : goal.returns-clause-size
returns-clause-size c = c.counts-count.ensures.blocks ∙ ap blocks c.in_ok-volume.ensures.image
