use Rattle.std.proofs.{Common.arith, lemmas.Grind.common_steps}
use Rattle.adf_volume.proofs.OwnerTables.{put_kept}
use Rattle.adf_volume.proofs.owner_table.OwnerTable.put.Goals as goal

pub invariant_of-self : goal.invariant_of-self
invariant_of-self c =
    (put_kept c.self.inside.owners.items c.of.result c.of.ensures c.self.view_is c.self.invariant c.requires.from c.requires.below
    c.requires.part c.requires.free).table

pub returns : goal.returns
returns c =
    (put_kept c.self.inside.owners.items c.of.result c.of.ensures c.self.view_is c.self.invariant c.requires.from c.requires.below
    c.requires.part c.requires.free).view

pub index_mut-requires : goal.index_mut-requires
index_mut-requires c = grind (arith, common_steps)

pub overflow_add-self : goal.overflow_add-self
overflow_add-self c = grind (arith, common_steps)
