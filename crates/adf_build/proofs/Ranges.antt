-- Ranges of blocks.
use Rattle.std.proofs.Common.{◌≡◌, ℕ, List, ◌+◌, ◌<◌, length, take, arith}
use Rattle.std.specs.List.{range_with_len}
use Rattle.std.proofs.{Math.ListN.set, lemmas.List.take_more_set, lemmas.Grind.common_steps}
use Rattle.adf_build.proofs.AllocatedBlocks.{range_with_len-append}

-- one block more in a table
pub range_step : (table : List ℕ) (b j v : ℕ) → j < length table → take j table ≡ range_with_len b j → v ≡ b + j
    → take (j + 1) (set table j v) ≡ range_with_len b (j + 1)
range_step table b j v h e f = grind (arith, common_steps, take_more_set table j v h, range_with_len-append b j 1)
