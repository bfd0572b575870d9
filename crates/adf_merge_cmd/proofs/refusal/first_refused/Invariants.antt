use Rattle.std.proofs.Common.{◌≡◌, ◌<◌, ℕ, List, true, get_or}
use Rattle.adf_merge_cmd.specs.Answers.{is_alike}
use Rattle.adf_merge_cmd.proofs.refusal.first_refused.Given as goal

abbrev pub invariant-loop-i : goal.invariant-loop-i
invariant-loop-i l = (k : ℕ) (r : List ℕ) → k < l.i → is_alike l.first (get_or l.readings k r) ≡ true
