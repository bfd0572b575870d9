use Rattle.std.proofs.Common.{◌≡◌, ◌≤◌, ◌-◌, false}
use Rattle.adf_runs.specs.Streams.{TakesCount}
use Rattle.adf_runs.proofs.devices.Source.skip.Given as goal

abbrev pub invariant-loop-passed : goal.invariant-loop-passed
invariant-loop-passed g l = record {
  within : l.passed ≤ l.limit;
  works : g.Self.Source.has_failed l.self ≡ false;
  reliable : g.Self.Source.may_fail l.fn.self ≡ false → g.Self.Source.may_fail l.self ≡ false;
  taken : TakesCount l.passed (g.Self.Source.left l.fn.self) (g.Self.Source.left l.self);
}

abbrev pub decreases-loop-passed : goal.decreases-loop-passed
decreases-loop-passed g l = l.limit - l.passed
