use Rattle.std.proofs.Common.{◌-◌, length, take}
use Rattle.adf_keep.specs.Links.{ArePlaces, IsAtPath}
use Rattle.adf_keep.proofs.links_kept.is_at.Given as goal

abbrev pub invariant-loop-k : goal.invariant-loop-k
invariant-loop-k l = ArePlaces l.x.image.now l.x.places.now → IsAtPath l.x.image.now l.header (take (length l.path - l.k) l.path)
    → IsAtPath l.x.image.now l.h l.path
