use Rattle.std.proofs.Common.{◌≡◌, ◌<◌, ◌≤◌, ℕ, true, get_or, length}
use Rattle.adf_keep.specs.Links.{has_link_mark}
use Rattle.adf_keep.proofs.links_kept.link_marks.Given as goal

abbrev pub invariant-loop-own : goal.invariant-loop-own
invariant-loop-own l = record {
  long : length l.marks.items ≡ l.count;
  each : (k : ℕ) → k < l.own-index → 1 ≤ get_or l.owns k 0 → get_or l.owns k 0 < l.count → has_link_mark l.marks.items (get_or l.owns k 0) ≡ true;
  only : (b : ℕ) → has_link_mark l.marks.items b ≡ true → (k : ℕ) × (1 ≤ b) × (get_or l.owns k 0 ≡ b);
}
