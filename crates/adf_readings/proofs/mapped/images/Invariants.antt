use Rattle.std.proofs.Common.{◌≡◌, ◌++◌, drop}
use Rattle.adf_readings.specs.Mapped.{images}
use Rattle.adf_readings.proofs.mapped.images.Given as goal

abbrev pub invariant-loop-reading : goal.invariant-loop-reading
invariant-loop-reading l = l.all.items ++ images (drop l.reading-index l.readings) ≡ images l.readings
