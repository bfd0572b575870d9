use Rattle.std.proofs.Common.{◌≡◌, ◌∙◌, List, ℕ, true, sym, subst}
use Rattle.adf_boot_blocks.specs.BootBlocks.{is_bootable}
use Rattle.adf_boot_blocks.proofs.Restored.{stays_bootable}
use Rattle.adf_boot_blocks.proofs.writing.restore.Goals as goal

pub returns-else-is_of_other_type-clause-bootable : goal.returns-else-is_of_other_type-clause-bootable
returns-else-is_of_other_type-clause-bootable c = λ dos boots.
    subst (λ (bs : List ℕ). is_bootable bs ≡ true) (sym c.put_boot.ensures.exact)
    (stays_bootable c.args.image.now c.args.boot.now c.requires.whole c.requires.boot dos
    (sym c.is_of_other_type.ensures ∙ c.if-is_of_other_type.false) boots)
