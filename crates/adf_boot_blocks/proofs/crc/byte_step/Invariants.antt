use Rattle.std.proofs.Common.{◌≡◌, bit_xor}
use Rattle.adf_boot_blocks.specs.Crc.{bit_steps}
use Rattle.adf_boot_blocks.proofs.crc.byte_step.Given as goal

abbrev pub invariant-loop-bit : goal.invariant-loop-bit
invariant-loop-bit l = l.next ≡ bit_steps l._bit (bit_xor l.fn.register l.fn.byte)
