use Rattle.adf_keep.specs.Links.{IsDirectory, IsPlaceWalk}
use Rattle.adf_keep.proofs.links_places.walk_directory.Given as goal

abbrev pub invariant-loop-slot : goal.invariant-loop-slot
invariant-loop-slot l = IsPlaceWalk l.image l.initial.walk → IsDirectory l.image l.directory → IsPlaceWalk l.image l.walk
