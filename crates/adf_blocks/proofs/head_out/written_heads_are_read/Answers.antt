use Rattle.std.proofs.Common.{slice_index, ◌∙◌}
use Rattle.adf_blocks.proofs.HeadLaws.{head_block-body, head_block-comment, head_block-form, head_block-meta, head_block-name, head_block-next}
use Rattle.adf_blocks.proofs.HeadLaws.{head_block-pointer, head_block-protect, head_block-slot, head_block-stamp, length_head_block}
use Rattle.adf_blocks.proofs.FieldLaws.{long_number}
use Rattle.adf_blocks.proofs.head_out.written_heads_are_read.Goals as goal

pub returns-clause-whole : goal.returns-clause-whole
returns-clause-whole c = length_head_block

pub returns-clause-form : goal.returns-clause-form
returns-clause-form c = λ h kind fits. head_block-form kind h fits

pub returns-clause-name : goal.returns-clause-name
returns-clause-name c = λ h fits. (head_block-name h fits).1

pub returns-clause-comment : goal.returns-clause-comment
returns-clause-comment c = λ h fits. (head_block-comment h fits).1

pub returns-clause-protection : goal.returns-clause-protection
returns-clause-protection c = head_block-protect

pub returns-clause-date : goal.returns-clause-date
returns-clause-date c = head_block-stamp

pub returns-clause-meta : goal.returns-clause-meta
returns-clause-meta c = head_block-meta

pub returns-clause-next : goal.returns-clause-next
returns-clause-next c = head_block-next

pub returns-clause-body : goal.returns-clause-body
returns-clause-body c = head_block-body

pub returns-clause-slots : goal.returns-clause-slots
returns-clause-slots c = head_block-slot

pub returns-clause-pointers : goal.returns-clause-pointers
returns-clause-pointers c = λ h size table ext j fits e lt small.
    head_block-pointer h size table ext j fits e lt ∙ long_number (slice_index table j) small
