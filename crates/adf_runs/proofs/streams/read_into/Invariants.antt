use Rattle.std.proofs.Common.{◌≡◌, ◌≤◌, ◌+◌, ◌-◌, false, take, vec_len}
use Rattle.std.specs.Io.KnownBytes.{Consumes}
use Rattle.adf_runs.proofs.streams.read_into.Given as goal

abbrev pub invariant-loop-filled : goal.invariant-loop-filled
invariant-loop-filled g l = record {
  larger : vec_len l.fn.buffer ≤ vec_len l.buffer;
  within : l.filled ≤ vec_len l.buffer;
  limited : l.filled ≤ l.limit + 1;
  works : g.R.Source.has_failed l.input ≡ false;
  reliable : g.R.Source.may_fail l.fn.input ≡ false → g.R.Source.may_fail l.input ≡ false;
  taken : Consumes (g.R.Source.left l.fn.input) (g.R.Source.left l.input) (take l.filled l.buffer.items);
}

abbrev pub decreases-loop-filled : goal.decreases-loop-filled
decreases-loop-filled g l = l.limit + 1 - l.filled
