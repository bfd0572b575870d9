use Rattle.adf_blocks.proofs.PageLaws.{length_page_block, page_block-bit, page_block-form}
use Rattle.adf_blocks.proofs.page.written_pages_are_read.Goals as goal

pub returns-clause-whole : goal.returns-clause-whole
returns-clause-whole c = length_page_block

pub returns-clause-form : goal.returns-clause-form
returns-clause-form c = page_block-form

pub returns-clause-bits : goal.returns-clause-bits
returns-clause-bits c = page_block-bit
