use Rattle.std.proofs.Common.{◌+◌, arith}
use Rattle.adf_blocks.specs.Sizes.{middle}
use Rattle.adf_build.proofs.WriteSteps.{root_step}
use Rattle.adf_build.proofs.volume.write_the_root.Goals as goal

pub returns : goal.returns
returns c =
    root_step c.write_root.new.image c.args.image.now c.args.slots c.page_table-table.result _ c.stamps.result c.args.tree.now c.args.plan.blocks
    c.root.result (middle c.args.plan.blocks + 1 + 0) c.min-count.result c.map_ext_or_none.result c.root.ensures (omega arith) c.requires.slots
    (omega (arith, c.pages.ensures.exact)) c.page_table-table.ensures c.map_ext_or_none.ensures c.label.ensures c.stamps.ensures
    c.write_root.ensures.exact
