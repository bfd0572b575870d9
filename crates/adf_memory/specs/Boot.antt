-- The boot blocks of an image in memory: what is told of them, and the numbers of what refuses others.
use Rattle.std.specs.Prelude.{ℕ, List, Option, None, Some, not, slice_index, take}
use Rattle.adf_boot_blocks.specs.BootBlocks.{begins_with_dos, has_no_code, has_right_sum, is_bootable}
use Rattle.adf_boot_blocks.specs.{Crc.crc_32, declared.boot.TheConstants.BOOT_LEN, declared.refusal.BootRefusal.BootRefusal}
use Rattle.adf_boot_blocks.specs.declared.refusal.BootRefusal.TheVariants.{BadSize, NotDos, BadSourceSize, SourceNotDos}
use Rattle.adf_memory.specs.declared.boot.BootBlocks.{BootBlocks}
use Rattle.std.specs.Int.{from_bool}

-- what is told of the boot blocks at the front of these bytes
abbrev pub boot_blocks : List ℕ → BootBlocks
boot_blocks image = record {
  crc = crc_32 (take BOOT_LEN image);
  begins_with_dos = from_bool (begins_with_dos image);
  volume_type = slice_index image 3;
  has_right_sum = from_bool (has_right_sum image);
  is_bootable = from_bool (is_bootable image);
  has_code = from_bool (not (has_no_code image));
}

-- the number of a refusal
abbrev pub boot_refusal_number : BootRefusal → ℕ
boot_refusal_number BadSize = 1
boot_refusal_number NotDos = 2
boot_refusal_number BadSourceSize = 3
boot_refusal_number SourceNotDos = 4

-- the number of a refusal, or 0 if there is none
abbrev pub answer_number : Option BootRefusal → ℕ
answer_number None = 0
answer_number (Some refusal) = boot_refusal_number refusal
