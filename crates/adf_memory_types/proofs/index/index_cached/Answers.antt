use Rattle.std.proofs.Common.{◌∙◌, sym}
use Rattle.adf_memory.proofs.ToldCauses.{some_number}
use Rattle.adf_memory_types.proofs.{KeptImages.first_at, KeptImages.refused_told, KeptTables.refused_tables}
use Rattle.adf_memory_types.proofs.index.index_cached.Goals as goal

pub returns-in-Ok : goal.returns-in-Ok
returns-in-Ok c = c.index_right.ensures c.args.image.now c.in-Ok.ensures.kept

pub returns-in-Err : goal.returns-in-Err
returns-in-Err c =
    let image = c.args.image.now in
    let f = c.in-Err.fault in
    let told = c.told_block.ensures in
    let n = c.number.result in
    let checked = refused_told image f.cause c.told_block.result n c.number.ensures
    (first_at image f.cause f.block c.told_block.result c.in-Err.ensures.first told.fault) told.memory in
    refused_tables image c.args.entries.now c.args.blocks.now c.refused_at.result c.told_block.result n
    (λ zero. some_number f.cause (sym c.number.ensures ∙ zero)) c.refused_at.ensures checked
