use Rattle.std.proofs.Common.{◌≡◌, ◌%◌, ◌^◌, sum}
use Rattle.adf_base.specs.Words.{words}
use Rattle.adf_base.proofs.blocks.Block.long_sum.Given as goal

abbrev pub invariant-loop-i : goal.invariant-loop-i
invariant-loop-i l = l.sum ≡ sum (words l.i l.self) % 2 ^ 32
