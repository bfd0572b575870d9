use Rattle.std.proofs.Common.{◌<◌, length}
use Rattle.adf_readings.proofs.choice.taken.Given as goal

abbrev pub invariant-loop-i : goal.invariant-loop-i
invariant-loop-i l = l.best < length l.readings
