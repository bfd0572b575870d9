use Rattle.std.proofs.Common.{◌≤◌, arith, refl}
use Rattle.std.proofs.lemmas.Bool.{eqb-true}
use Rattle.adf_keep.proofs.LinksKept.{at_next, at_root}
use Rattle.adf_keep.proofs.links_kept.is_at.Goals as goal

pub loop-k-preserved : goal.loop-k-preserved
loop-k-preserved c = λ are at.
    let low : 1 ≤ c.place_of_header-place.result.directory = omega arith in
    c.loop-k.invariant are
    (at_next c.args.x.now.image.now c.args.x.now.places.now c.loop-k.header c.place_of_header-place.result c.args.path.now c.index-path-path.result c.loop-k.k are
    c.place_of_header-place.ensures low (omega arith) (c.if-not-has_name.ensures refl) c.index-path-path.is at)

pub returns : goal.returns
returns c = λ are yes.
    c.loop-k.invariant are
    (at_root c.args.x.now.image.now c.loop-k.header c.root_of.result c.args.path.now c.loop-k.k (omega arith) (eqb-true _ _ yes) c.root_of.ensures)
