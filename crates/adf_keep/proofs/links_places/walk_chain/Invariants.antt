use Rattle.std.proofs.Common.{◌≤◌}
use Rattle.adf_keep.specs.Links.{IsDirectory, IsInHashChain, IsPlaceWalk}
use Rattle.adf_keep.proofs.links_places.walk_chain.Given as goal

abbrev pub invariant-loop : goal.invariant-loop
invariant-loop l = record {
  chain : 1 ≤ l.h → IsInHashChain l.image l.place.directory l.place.slot l.h;
  walk : IsPlaceWalk l.image l.initial.walk → IsDirectory l.image l.place.directory → IsPlaceWalk l.image l.walk;
}
