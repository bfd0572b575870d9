use Rattle.std.proofs.Common.{◌∙◌, ap}
use Rattle.adf_blocks.specs.Sizes.{blocks}
use Rattle.adf_edit_cmd.proofs.old_disk.uncached_tree.Goals as goal

pub returns-in-Ok-clause-tree : goal.returns-in-Ok-clause-tree
returns-in-Ok-clause-tree c =
    let (t, l, fits) = c.in_ok-volume.ensures.fits in
    (l, rw (c.in-Ok.ensures.tree _ t l fits.fits.1, ← c.in_ok-volume.ensures.image) fits)

pub returns-in-Ok-clause-size : goal.returns-in-Ok-clause-size
returns-in-Ok-clause-size c = c.counts-count.ensures.blocks ∙ ap blocks c.in_ok-volume.ensures.image
