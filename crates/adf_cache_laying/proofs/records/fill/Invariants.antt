use Rattle.std.proofs.Common.{◌≤◌}
use Rattle.adf_cache_laying.proofs.records.fill.Given as goal

abbrev pub invariant-loop-n : goal.invariant-loop-n
invariant-loop-n l = l.at ≤ 512
