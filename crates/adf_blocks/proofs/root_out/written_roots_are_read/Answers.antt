use Rattle.adf_blocks.proofs.RootLaws.{length_root_block, root_block-form, root_block-map_ext, root_block-page, root_block-slot, root_block-stamps}
use Rattle.adf_blocks.proofs.RootLaws.{root_block-text}
use Rattle.adf_blocks.proofs.root_out.written_roots_are_read.Goals as goal

pub returns-clause-whole : goal.returns-clause-whole
returns-clause-whole c = length_root_block

pub returns-clause-form : goal.returns-clause-form
returns-clause-form c = root_block-form

pub returns-clause-slots : goal.returns-clause-slots
returns-clause-slots c = root_block-slot

pub returns-clause-pages : goal.returns-clause-pages
returns-clause-pages c = root_block-page

pub returns-clause-map_ext : goal.returns-clause-map_ext
returns-clause-map_ext c = root_block-map_ext

pub returns-clause-label : goal.returns-clause-label
returns-clause-label c = root_block-text

pub returns-clause-stamps : goal.returns-clause-stamps
returns-clause-stamps c = root_block-stamps
