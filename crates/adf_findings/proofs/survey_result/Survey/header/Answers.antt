use Rattle.std.proofs.Common.{◌≡◌, ◌≤◌, ◌<◌, ◌+◌, ◌*◌, length, refl, ap, arith}
use Rattle.adf_blocks.specs.Sizes.{blocks}
use Rattle.adf_volume.specs.Walk.{node_block}
use Rattle.adf_findings.proofs.Keeping.{header_inside}
use Rattle.adf_findings.proofs.survey_result.Survey.header.Goals as goal

pub returns-in-Some-clause-some : goal.returns-in-Some-clause-some
returns-in-Some-clause-some c = λ w fs h.
    let k = (c.in-Some.ensures.some w fs h).0 refl in
    let at : c.in-Some.b ≡ node_block w c.args.n = c.in-Some.ensures.block w fs h in
    let same = ap (λ v. length v.image) c.self.view_is in
    let fits = header_inside c.args.self.now.image w fs h c.args.n k.0 k.1 in
    let size : length c.args.self.now.image ≡ 512 * blocks c.args.self.now.image = fits.0 in
    let lt : node_block w c.args.n < blocks c.args.self.now.image = fits.1 in
    let le : c.in-Some.b * 512 + 512 ≤ length c.self.inside.image.now = omega arith in
    ((λ e. k), (λ y. c.at.ensures.whole.1 le))
