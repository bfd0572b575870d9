use Rattle.std.proofs.Common.{subst, sym}
use Rattle.adf_keep.specs.Links.{ArePlaces}
use Rattle.adf_keep.proofs.LinkPlaces.{none_placed}
use Rattle.adf_keep.proofs.links_places.no_places.Goals as goal

pub returns : goal.returns
returns c = λ image. subst (λ xs. ArePlaces image xs) (sym (c.in_ok-vec.ensures.items_if_clones_equal (λ y e. e))) (none_placed image c.args.count)
