use Rattle.adf_unread.proofs.DroppedImages.{all_read, bytes_without, length_without}
use Rattle.adf_unread.proofs.dropping.dropped_keeps.Goals as goal

pub returns-clause-length : goal.returns-clause-length
returns-clause-length c = length_without

pub returns-clause-whole : goal.returns-clause-whole
returns-clause-whole c = all_read

pub returns-clause-bytes : goal.returns-clause-bytes
returns-clause-bytes c = bytes_without
