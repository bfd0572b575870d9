use Rattle.std.proofs.Common.{◌≡◌, ◌<◌, ℕ, get_or}
use Rattle.adf_manifest.specs.Texts.{unpaired}
use Rattle.adf_manifest.proofs.digits.write_pairs.Given as goal

abbrev pub invariant-loop-i : goal.invariant-loop-i
invariant-loop-i l = (k : ℕ) → k < l.i → get_or l.bytes k 0 ≡ get_or (unpaired l.text) k 0
