use Rattle.std.proofs.Common.{◌≡◌, ◌*◌, ◌+◌, ◌-◌, take, reverse}
use Rattle.std.specs.List.{flat_map}
use Rattle.byteorder.specs.Endian.{big_bytes}
use Rattle.adf_base.specs.Words.{with_bytes}
use Rattle.adf_base.proofs.puts.put_words_down.Given as goal

abbrev pub invariant-loop-k : goal.invariant-loop-k
invariant-loop-k l = l.block ≡ with_bytes l.initial.block (4 * (l.i + 1 - l.k)) (flat_map (big_bytes 4) (reverse (take l.k l.words)))
