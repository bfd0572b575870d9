-- Why an image does not get other boot blocks. `source` has those that are copied at its front.
use Rattle.std.specs.Prelude.{◌==◌, ◌&&◌, ◌%◌, ℕ, Bool, List, Option, None, Some, if◌then◌else◌, length, nat_le, not}
use Rattle.adf_boot_blocks.specs.{BootBlocks.begins_with_dos, declared.boot.TheConstants.BOOT_LEN, declared.refusal.BootRefusal.BootRefusal}
use Rattle.adf_boot_blocks.specs.declared.refusal.BootRefusal.TheVariants.{BadSize, NotDos, BadSourceSize, SourceNotDos}
use Rattle.adf_boot_blocks.specs.declared.refusal.TheConstants.{LEAST_BYTES, MOST_BYTES}

-- the image is whole blocks, four or more, and no more than the largest volume has
abbrev pub has_image_size : List ℕ → Bool
has_image_size image = (length image % 512 == 0) && nat_le LEAST_BYTES (length image) && nat_le (length image) MOST_BYTES

-- why an image gets no other boot blocks, if it gets none
abbrev pub image_refusal : List ℕ → Option BootRefusal
image_refusal image = if not (has_image_size image) then Some BadSize else (if begins_with_dos image then None else Some NotDos)

-- why an image does not get those of a source, if it does not
abbrev pub copy_refusal : List ℕ → List ℕ → Option BootRefusal
copy_refusal image source =
    if not (nat_le BOOT_LEN (length source)) then Some BadSourceSize
    else (if begins_with_dos source then image_refusal image else Some SourceNotDos)
