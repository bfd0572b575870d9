use Rattle.std.proofs.Common.{◌≡◌}
use Rattle.adf_base.specs.Words.{words}
use Rattle.adf_boot_blocks.specs.BootBlocks.{carry_sum}
use Rattle.adf_boot_blocks.proofs.boot.carry_sum.Given as goal

abbrev pub invariant-loop-i : goal.invariant-loop-i
invariant-loop-i l = l.sum ≡ carry_sum (words l.i l.image)
