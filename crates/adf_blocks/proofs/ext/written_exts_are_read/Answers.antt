use Rattle.adf_blocks.proofs.ExtLaws.{ext_block-form, ext_block-next, ext_block-pointer, length_ext_block}
use Rattle.adf_blocks.proofs.ext.written_exts_are_read.Goals as goal

pub returns-clause-whole : goal.returns-clause-whole
returns-clause-whole c = length_ext_block

pub returns-clause-form : goal.returns-clause-form
returns-clause-form c = ext_block-form

pub returns-clause-pointers : goal.returns-clause-pointers
returns-clause-pointers c = ext_block-pointer

pub returns-clause-next : goal.returns-clause-next
returns-clause-next c = ext_block-next
