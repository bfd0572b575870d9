use Rattle.std.proofs.Common.{◌<◌, arith}
use Rattle.adf_blocks.specs.Sizes.{blocks, pages_needed}
use Rattle.adf_findings.proofs.{CourseSteps.below_gone, MapPlaces.page_named, MapPlaces.page_on}
use Rattle.adf_findings.proofs.course.go_through_map.Goals as goal

pub loop-page-preserved : goal.loop-page-preserved
loop-page-preserved c =
    let image = c.args.image.now in
    let f = c.holder_of.new.progress in
    let page = c.loop-page.page in
    let a = c.in-Some.at in
    let i = c.page_word.result in
    let x = rw c.in-Some.is at c.in_ok-at.ensures in
    let lt : page < pages_needed (blocks image) =
    omega (arith, c.loop-page-test.true, c.page_count-page-end.ensures.exact, c.blocks-2.ensures.blocks) in
    let n = page_named image f x.0 page a i c.page_word.ensures.named lt x.1 x.2 in
    page_on image f x.0 page a i c.go_on.new.progress c.in_ok-go_on.field-0 n.asked.1
    (below_gone c.below-due.ensures n c.in_ok-go_on.ensures.gone)
