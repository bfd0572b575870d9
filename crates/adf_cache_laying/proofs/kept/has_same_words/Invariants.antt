use Rattle.std.proofs.Common.{◌≡◌, ◌<◌, ℕ, false}
use Rattle.adf_base.specs.Words.{word}
use Rattle.adf_cache_laying.specs.LaidCaches.{is_of_cache}
use Rattle.adf_cache_laying.proofs.kept.has_same_words.Given as goal

abbrev pub invariant-loop-i : goal.invariant-loop-i
invariant-loop-i l = (k : ℕ) → k < l.i → is_of_cache k ≡ false → word l.other k ≡ word l.one k
