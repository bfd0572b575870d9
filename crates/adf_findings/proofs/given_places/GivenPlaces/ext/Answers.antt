use Rattle.std.proofs.Common.{◌<◌, ◌∙◌, ap, arith}
use Rattle.std.proofs.{lemmas.List.get_or_default, lemmas.Grind.common_steps}
use Rattle.adf_volume.specs.Places.{first_ext}
use Rattle.adf_findings.proofs.GrownPlaces.{ext_kept}
use Rattle.adf_findings.proofs.given_places.GivenPlaces.ext.Goals as goal

pub returns-clause-kept : goal.returns-clause-kept
returns-clause-kept c =
    let p = c.begin.new.self in
    let begun = c.in_ok-begin.ensures in
    let place = c.in_ok-place.ensures in
    let start = ap first_ext
    (c.index.ensures ∙ get_or_default p.starts.items c.args.node c.index.result.now (record { exts = 0; datas = 0 }) (omega (arith, begun.len))) in
    let past : c.in_ok-place.place < c.max-self.result = grind (arith, common_steps) in
    ext_kept p begun.grown.fit c.args.node c.args.k c.in_ok-place.place begun.len c.requires.number place.short c.max-self.result
    (omega (arith, place.place, start)) past
