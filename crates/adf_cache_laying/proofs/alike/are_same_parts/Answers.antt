use Rattle.std.proofs.Common.{arith, below_more}
use Rattle.adf_cache_laying.specs.LaidCaches.{IsSamePart}
use Rattle.adf_cache_laying.proofs.alike.are_same_parts.Goals as goal

pub loop-b-preserved : goal.loop-b-preserved
loop-b-preserved c = λ w fs s v gs t.
    below_more (IsSamePart w v) c.loop-b.b (c.loop-b.invariant w fs s v gs t)
    (c.is_same_part.ensures w fs s v gs t c.if-not-is_same_part.false)

pub returns : goal.returns
returns c = λ w fs s v gs t yes b lt. c.loop-b.invariant w fs s v gs t b (omega (arith, lt, c.loop-b-test.false))
