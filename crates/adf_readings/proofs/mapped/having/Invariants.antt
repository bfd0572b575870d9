use Rattle.std.proofs.Common.{◌≡◌, ◌++◌, drop}
use Rattle.adf_readings.specs.Mapped.{having, images}
use Rattle.adf_readings.proofs.mapped.having.Given as goal

abbrev pub invariant-loop-reading : goal.invariant-loop-reading
invariant-loop-reading l = l.some.items ++ images (having (drop l.reading-index l.readings) l.block) ≡ images (having l.readings l.block)
