use Rattle.std.proofs.Common.{◌≡◌, ◌<◌, ℕ, true}
use Rattle.adf_keep.specs.Links.{IsClosed, is_known}
use Rattle.adf_keep.proofs.links_beside.are_closed.Given as goal

abbrev pub invariant-loop-b : goal.invariant-loop-b
invariant-loop-b l = (b : ℕ) → b < l.b → is_known l.x.volume.now l.x.places.now b ≡ true
    → IsClosed l.x.volume.now l.x.places.now l.x.links.now b
