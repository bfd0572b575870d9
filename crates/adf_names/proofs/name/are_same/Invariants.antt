use Rattle.std.proofs.Common.{◌≡◌, ◌<◌, ℕ, get_or}
use Rattle.adf_base.specs.Hash.{upper_of}
use Rattle.adf_names.proofs.name.are_same.Given as goal

abbrev pub invariant-loop-i : goal.invariant-loop-i
invariant-loop-i l = (k : ℕ) → k < l.i → upper_of (get_or l.a k 0) ≡ upper_of (get_or l.b k 0)
