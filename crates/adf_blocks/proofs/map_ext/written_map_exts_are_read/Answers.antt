use Rattle.adf_blocks.proofs.MapExtLaws.{length_map_ext_block, map_ext_block-next, map_ext_block-page}
use Rattle.adf_blocks.proofs.map_ext.written_map_exts_are_read.Goals as goal

pub returns-clause-whole : goal.returns-clause-whole
returns-clause-whole c = length_map_ext_block

pub returns-clause-pages : goal.returns-clause-pages
returns-clause-pages c = map_ext_block-page

pub returns-clause-next : goal.returns-clause-next
returns-clause-next c = map_ext_block-next
