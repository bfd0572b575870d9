use Rattle.std.proofs.Common.{◌≡◌, take}
use Rattle.std.specs.List.{fold}
use Rattle.adf_boot_blocks.specs.Crc.{byte_step}
use Rattle.adf_boot_blocks.proofs.crc.crc_32.Given as goal

abbrev pub invariant-loop-byte : goal.invariant-loop-byte
invariant-loop-byte l = l.register ≡ fold byte_step 0xFFFFFFFF (take l.byte-index l.bytes)
