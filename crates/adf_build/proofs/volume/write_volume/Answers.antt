use Rattle.std.proofs.{Common.arith, lemmas.Grind.common_steps}
use Rattle.adf_build.proofs.{Order.slots_are, Order.tree_rises, WriteSteps.volume_step, WriteSteps.nodes_length}
use Rattle.adf_build.proofs.volume.write_volume.Goals as goal

pub write_the_root-requires-clause-slots : goal.write_the_root-requires-clause-slots
write_the_root-requires-clause-slots c = grind (arith, common_steps, slots_are)

pub returns : goal.returns
returns c =
    volume_step c.put_block.new.image c.args.image.now c.write_entries.new.image c.write_pages.new.image c.write_map_exts.new.image
    c.write_the_root.new.image c.boot_block.result c.args.tree.now c.args.plan.blocks c.args.total c.letters.result c.kind.result
    c.requires.total c.letters.ensures c.kind.ensures c.boot_block.ensures c.write_entries.ensures c.write_pages.ensures c.write_map_exts.ensures
    c.write_the_root.ensures c.put_block.ensures

pub prove-unreachable-requires : goal.prove-unreachable-requires
prove-unreachable-requires c = grind (arith, nodes_length)

pub children_end-first-requires-clause-low : goal.children_end-first-requires-clause-low
children_end-first-requires-clause-low c = grind (arith, tree_rises)

pub slots_between-slots-requires-clause-nodes : goal.slots_between-slots-requires-clause-nodes
slots_between-slots-requires-clause-nodes c = grind (arith, nodes_length)
