-- What is done with the boot blocks of an image.
use Rattle.std.specs.Prelude.{◌≤◌, ℕ, List, length}
use Rattle.adf_boot_blocks.specs.declared.boot.TheConstants.{BOOT_LEN}
use Rattle.adf_boot_cmd.specs.Answers.{Order, clear, copy, install, tell}
use Rattle.adf_boot_cmd.specs.declared.work.Work.{Work, TheVariants.Tell, TheVariants.Install, TheVariants.Clear, TheVariants.Copy}

-- the order that is done
abbrev pub order_of : Work → Order
order_of (Tell json) = tell
order_of Install = install
order_of Clear = clear
order_of (Copy boot) = copy boot.items

-- the boot file of an order, if it has one, has boot blocks
abbrev pub HasBoot : Order → Type 0
HasBoot (copy boot) = BOOT_LEN ≤ length boot
HasBoot _ = Unit {0}
