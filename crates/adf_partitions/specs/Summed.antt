-- Blocks with a sum: the rigid disk block and the partition blocks.
use Rattle.std.specs.Prelude.{ℕ, ◌+◌, ◌*◌, ◌%◌, ◌^◌, ◌==◌, ◌&&◌, nat_le, Bool, List, length, sum}
use Rattle.adf_base.specs.Words.{word, words}
use Rattle.adf_partitions.specs.declared.layout.TheConstants.{SUMMED_LONGS}

-- the sum of the first n words of a block, modulo 2 ^ 32
abbrev pub sum_of : ℕ → List ℕ → ℕ
sum_of n b = sum (words n b) % 2 ^ 32

-- whether the first words of a block, 3 to 128 as word SUMMED_LONGS says, add up to 0
abbrev pub is_summed : List ℕ → Bool
is_summed b = nat_le 3 (word b SUMMED_LONGS) && nat_le (word b SUMMED_LONGS) 128 && (sum_of (word b SUMMED_LONGS) b == 0)

-- whether the bytes hold the whole block b
abbrev pub holds : List ℕ → ℕ → Bool
holds bytes b = nat_le (b * 512 + 512) (length bytes)
