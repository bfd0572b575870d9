use Rattle.adf_blocks.proofs.DataLaws.{data_block-bytes, data_block-form, length_data_block}
use Rattle.adf_blocks.proofs.data.written_data_are_read.Goals as goal

pub returns-clause-whole : goal.returns-clause-whole
returns-clause-whole c = length_data_block

pub returns-clause-form : goal.returns-clause-form
returns-clause-form c = data_block-form

pub returns-clause-bytes : goal.returns-clause-bytes
returns-clause-bytes c = data_block-bytes
