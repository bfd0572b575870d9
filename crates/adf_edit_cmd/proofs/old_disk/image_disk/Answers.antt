use Rattle.std.proofs.Common.{◌≡◌, true}
use Rattle.adf_blocks.specs.Sizes.{blocks, is_allowed}
use Rattle.adf_edit_cmd.proofs.CachedSteps.{allowed_with, has_boot_blocks}
use Rattle.adf_edit_cmd.proofs.old_disk.image_disk.Goals as goal

pub returns-clause-size : goal.returns-clause-size
returns-clause-size c =
    let allowed : is_allowed (blocks c.args.image.now) ≡ true = allowed_with _ c.args.image.now c.in_ok-tree.tree c.in_ok-tree.ensures.tree in
    rw c.in_ok-tree.ensures.size allowed

pub returns-clause-boot : goal.returns-clause-boot
returns-clause-boot c = has_boot_blocks c.args.image.now (allowed_with _ c.args.image.now c.in_ok-tree.tree c.in_ok-tree.ensures.tree)
