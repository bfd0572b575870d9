use Rattle.std.proofs.Common.{◌≡◌, ◌+◌, ◌-◌, ◌≤◌}
use Rattle.adf_build.specs.Bits.{bits_from, is_free_bit}
use Rattle.adf_build.proofs.pages.mixed_word.Given as goal

abbrev pub invariant-loop-i : goal.invariant-loop-i
invariant-loop-i l = record {
  within : l.i ≤ 32;
  work : l.word ≡ bits_from (is_free_bit l.plan.blocks l.total) (l.q + l.i) (32 - l.i);
}

abbrev pub decreases-loop-i : goal.decreases-loop-i
decreases-loop-i l = l.i
