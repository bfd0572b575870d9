use Rattle.std.proofs.Common.{◌≡◌, ◌<◌, ℕ, get_or, true, []}
use Rattle.std.specs.Str.{bytes_eq}
use Rattle.adf_names.specs.Texts.{uppers}
use Rattle.adf_edits.proofs.paths.same_path.Given as goal

abbrev pub invariant-loop-i : goal.invariant-loop-i
invariant-loop-i l = (k : ℕ) → k < l.i → bytes_eq (uppers (get_or l.a k [])) (uppers (get_or l.b k [])) ≡ true
