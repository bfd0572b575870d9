use Rattle.std.proofs.Common.{◌≡◌, ◌++◌, length, map}
use Rattle.std.specs.{List.All, Str.IsUtf8}
use Rattle.adf_memory.specs.Words.{between_zeros}
use Rattle.adf_memory.proofs.words.words_in.Given as goal

abbrev pub invariant-loop-rest : goal.invariant-loop-rest
invariant-loop-rest l = record {
  split : between_zeros l.bytes ≡ map (λ w. w.now) l.words.items ++ between_zeros l.rest;
  texts : All IsUtf8 (map (λ w. w.now) l.words.items);
}

abbrev pub decreases-loop-rest : goal.decreases-loop-rest
decreases-loop-rest l = length l.rest
