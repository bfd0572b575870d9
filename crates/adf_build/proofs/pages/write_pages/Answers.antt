use Rattle.std.proofs.Common.{◌≡◌, ap, arith}
use Rattle.adf_blocks.specs.{PageBlock.page_block, Sizes.pages_needed}
use Rattle.adf_build.specs.Laid.{page_part}
use Rattle.adf_build.proofs.Parts.{part_step}
use Rattle.adf_build.proofs.pages.write_pages.Goals as goal

pub loop-j-preserved : goal.loop-j-preserved
loop-j-preserved c =
    let few : c.pages-j-end.result ≡ pages_needed c.args.plan.blocks = c.pages-j-end.ensures.exact in
    part_step c.write_page.new.image c.loop-j.image _ _ (page_part c.args.plan.blocks c.args.total) c.loop-j.j c.page.result
    (pages_needed c.args.plan.blocks) (omega arith) c.page.ensures (ap page_block c.words_of_page.ensures)
    c.loop-j.invariant c.write_page.ensures.exact
