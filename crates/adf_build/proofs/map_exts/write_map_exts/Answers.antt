use Rattle.std.proofs.Common.{refl, arith, rules}
use Rattle.adf_build.proofs.MapExts.{map_ext_fits, map_exts_step, map_exts_few}
use Rattle.adf_build.proofs.map_exts.write_map_exts.Goals as goal

pub write_map_ext-requires-clause-whole : goal.write_map_ext-requires-clause-whole
write_map_ext-requires-clause-whole c =
    map_ext_fits c.args.plan.blocks _ c.loop-j.j _ c.args.plan.allowed c.map_ext.ensures (omega arith) (search rules)

pub loop-j-preserved : goal.loop-j-preserved
loop-j-preserved c =
    map_exts_step c.write_map_ext.new.image c.loop-j.image _ c.page_table-table.result c.args.plan.blocks c.map_ext.result _ c.loop-j.j
    c.map_exts-count.result c.min-len.result c.map_ext_or_none-next.result c.map_ext.ensures (omega arith)
    (omega (arith, c.pages.ensures.exact, c.saturating_sub.ensures)) refl c.page_table-table.ensures c.map_ext_or_none-next.ensures
    c.loop-j.invariant c.write_map_ext.ensures.exact

pub overflow_mul-first : goal.overflow_mul-first
overflow_mul-first c = grind (arith, map_exts_few)

pub overflow_add-first : goal.overflow_add-first
overflow_add-first c = grind (arith, map_exts_few)

pub page_table-table-requires : goal.page_table-table-requires
page_table-table-requires c = grind (arith, map_exts_few)

pub map_ext_or_none-next-requires : goal.map_ext_or_none-next-requires
map_ext_or_none-next-requires c = grind (arith, map_exts_few)

pub map_ext-requires : goal.map_ext-requires
map_ext-requires c = grind (arith, map_exts_few)
