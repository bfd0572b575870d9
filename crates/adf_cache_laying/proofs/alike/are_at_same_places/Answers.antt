use Rattle.std.proofs.Common.{◌+◌, below_more}
use Rattle.adf_cache_laying.specs.LaidCaches.{IsAtSamePlace}
use Rattle.adf_cache_laying.proofs.LaidSteps.{all_entries}
use Rattle.adf_cache_laying.proofs.alike.are_at_same_places.Goals as goal

pub loop-i-preserved : goal.loop-i-preserved
loop-i-preserved c = λ w fs s v gs t.
    below_more (λ k. IsAtSamePlace w v (k + 1)) c.loop-i.i (c.loop-i.invariant w fs s v gs t)
    (c.is_at_same_place.ensures w fs s v gs t c.if-not-is_at_same_place.false)

pub returns : goal.returns
returns c = λ w fs s v gs t yes.
    all_entries w (IsAtSamePlace w v) c.len-i-end.result c.loop-i.i (c.len-i-end.ensures w fs s) c.loop-i-test.false
    (c.loop-i.invariant w fs s v gs t)
