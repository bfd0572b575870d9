use Rattle.adf_keep.specs.Links.{IsPlaceWalk}
use Rattle.adf_keep.proofs.links_places.places_in.Given as goal

abbrev pub invariant-loop-k : goal.invariant-loop-k
invariant-loop-k l = IsPlaceWalk l.image l.walk
