use Rattle.std.proofs.Common.{◌∙◌, ap}
use Rattle.adf_volume.specs.Image.{letters_of}
use Rattle.adf_memory.specs.Tables.{table_entry}
use Rattle.adf_memory.proofs.TableLaws.{block_told, parent_small, row_matches, row_there}
use Rattle.adf_memory.proofs.tables.table_entry.Goals as goal

pub unwrap-row-requires : goal.unwrap-row-requires
unwrap-row-requires c =
    let s = c.requires.fits in
    let own = letters_of c.args.volume.now in
    let there = c.requires.some own s.0 s.1 s.2 in
    row_there c.row.result s.0 c.args.node there.0 there.1 (c.row.ensures own s.0 s.1 s.2)

pub unwrap-header-requires : goal.unwrap-header-requires
unwrap-header-requires c =
    let s = c.requires.fits in
    let own = letters_of c.args.volume.now in
    (c.block_of.ensures.some own s.0 s.1 s.2).1 (c.requires.some own s.0 s.1 s.2).1

pub entry_of-requires : goal.entry_of-requires
entry_of-requires c =
    let s = c.requires.fits in
    let own = letters_of c.args.volume.now in
    let there = c.requires.some own s.0 s.1 s.2 in
    parent_small c.row.result c.unwrap-row.result c.args.volume.now s.0 s.1 c.args.node c.unwrap-row.ensures s.2
    (c.requires.few own s.0 s.1 s.2)
    there.0 there.1 (c.row.ensures own s.0 s.1 s.2)

pub returns : goal.returns
returns c = λ ls t l st e at.
    c.entry_of.ensures e (row_matches c.row.result c.unwrap-row.result _ e c.unwrap-row.ensures at (c.row.ensures ls t l st))
    ∙ ap (λ h. table_entry h c.args.first e)
    (block_told c.block_of.result c.unwrap-header.result _ c.unwrap-header.ensures (c.block_of.ensures.block ls t l st))
